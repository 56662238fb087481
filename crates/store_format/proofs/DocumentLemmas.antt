-- The slots of a block that is made of documents.
use Rattle.std.proofs.Common.{◌≡◌, ℕ, ◌+◌, ◌-◌, ◌*◌, ◌^◌, ◌<◌, ◌≤◌, true, false, ◌&&◌, ltb, leb, List, [], ◌∷◌, ◌++◌, length, map, refl, sym, ◌∙◌, ap, subst, arith, append_assoc, length-append}
use Rattle.std.proofs.lemmas.Bool.{cond-true, cond-false, lt-ltb, le-ltb, le-leb, and_from}
use Rattle.std.proofs.lemmas.List.{append-nil}
use Rattle.std.proofs.lemmas.List.Concat.{flat_map-append}
use Rattle.std.proofs.lemmas.Nat.{from_le_bytes-to_le_bytes_4}
use Rattle.std.specs.List.{flat_map, concat, range_with_len}
use Rattle.std.specs.Prelude.{slice_range}
use Rattle.std.specs.Int.{w32, from_le_bytes}
use Rattle.store_base.specs.Serialize.{fixed}
use Rattle.store_base.specs.SerializeLemmas.{length-fixed}
use Rattle.store_format.specs.Block.{starts_from, block, doc, damaged, u32_at, count_of, table_of, start_of, end_of, is_sound, slot}
use Rattle.store_format.specs.Laws.{BlocksHoldDocuments}
use Rattle.store_format.proofs.BlockLemmas.{length-fixeds, length-starts_from, starts_from-append, concat-append, length-block}
use Rattle.store_format.proofs.FileLemmas.{slice_between}

-- ---- reading a number

-- a number of four bytes between two lists
u32_between : (xs ys : List ℕ) (n place : ℕ) → n < 2 ^ 32 → place ≡ length xs → u32_at (xs ++ (fixed 4 n ++ ys)) place ≡ n
unfolding u32_at fixed
u32_between xs ys n place lt is =
    ap (from_le_bytes w32) (slice_between xs (fixed 4 n) ys place (place + 4) is (omega (arith, length-fixed 4 n))) ∙ from_le_bytes-to_le_bytes_4 n lt

-- the table of the starts
table : List (List ℕ) → List ℕ
table docs = flat_map (fixed 4) (starts_from 0 docs)

-- the table has four bytes for each document
length-table : (docs : List (List ℕ)) → length (table docs) ≡ 4 * length docs
unfolding table
length-table docs = omega (arith, length-fixeds (starts_from 0 docs), length-starts_from 0 docs)

-- ---- the parts of a block

-- a block says how many documents it has
pub count_of-block : (docs : List (List ℕ)) → length (block docs) < 2 ^ 32 → count_of (block docs) ≡ length docs
unfolding table
count_of-block docs fits =
    let front = concat docs ++ table docs in
    let size = length-block docs in
    let whole : block docs ≡ front ++ (fixed 4 (length docs) ++ []) = ap (λ (x : List ℕ). front ++ x) (sym (append-nil (fixed 4 (length docs)))) in
    let place : length (block docs) - 4 ≡ length front = omega (arith, size, length-append (concat docs) (table docs), length-table docs) in
    ap (λ (x : List ℕ). u32_at x (length (block docs) - 4)) whole ∙ u32_between front [] (length docs) (length (block docs) - 4) (omega arith) place

-- the table begins where the documents end
table_of-block : (docs : List (List ℕ)) → length (block docs) < 2 ^ 32 → table_of (block docs) ≡ length (concat docs)
table_of-block docs fits = omega (arith, count_of-block docs fits, length-block docs)

-- ---- a document of a block, and its entry

-- a block, with the entry of the document between front and back
around : (front : List (List ℕ)) (d : List ℕ) (back : List (List ℕ)) → block (front ++ d ∷ back)
    ≡ (concat (front ++ d ∷ back) ++ table front) ++ (fixed 4 (length (concat front)) ++ (flat_map (fixed 4) (starts_from (length (concat front) + length d) back)
    ++ fixed 4 (length (front ++ d ∷ back))))
unfolding table
around front d back =
    let docs = front ++ d ∷ back in
    let more = flat_map (fixed 4) (starts_from (length (concat front) + length d) back) in
    let starts : starts_from 0 docs ≡ starts_from 0 front ++ (length (concat front) ∷ starts_from (length (concat front) + length d) back) = starts_from-append 0 front (d ∷ back)
    ∙ ap (λ (p : ℕ). starts_from 0 front ++ (p ∷ starts_from (p + length d) back)) (omega arith) in
    let entries : table docs ≡ table front ++ (fixed 4 (length (concat front)) ++ more) = ap (flat_map (fixed 4)) starts
    ∙ flat_map-append (fixed 4) (starts_from 0 front) (length (concat front) ∷ starts_from (length (concat front) + length d) back) in
    ap (λ (t : List ℕ). (concat docs ++ t) ++ fixed 4 (length docs)) entries ∙ regroup (concat docs) (table front) (fixed 4 (length (concat front))) more (fixed 4 (length docs))
  where
    regroup : (a b c d e : List ℕ) → (a ++ (b ++ (c ++ d))) ++ e ≡ (a ++ b) ++ (c ++ (d ++ e))
    regroup a b c d e = simp append_assoc

-- a document begins where those before it end
pub start_of-block : (front : List (List ℕ)) (d : List ℕ) (back : List (List ℕ)) (j : ℕ) → j ≡ length front → length (block (front ++ d ∷ back)) < 2 ^ 32
    → start_of (block (front ++ d ∷ back)) j ≡ length (concat front)
start_of-block front d back j is fits =
    let docs = front ++ d ∷ back in
    let more = flat_map (fixed 4) (starts_from (length (concat front) + length d) back) ++ fixed 4 (length docs) in
    let size : length (concat docs) ≡ length (concat front) + length (d ++ concat back) = ap length (concat-append front (d ∷ back)) ∙ length-append (concat front) (d ++ concat back) in
    let place : table_of (block docs) + 4 * j ≡ length (concat docs ++ table front) = omega (arith, table_of-block docs fits, is, length-append (concat docs) (table front), length-table front) in
    ap (λ (x : List ℕ). u32_at x (table_of (block docs) + 4 * j)) (around front d back)
    ∙ u32_between (concat docs ++ table front) more (length (concat front)) (table_of (block docs) + 4 * j) (omega (arith, size, length-block docs, fits)) place

-- where a document ends: where the next one begins, or at the table
end_of-block : (front : List (List ℕ)) (d : List ℕ) (back : List (List ℕ)) (j : ℕ) → j ≡ length front → length (block (front ++ d ∷ back)) < 2 ^ 32
    → end_of (block (front ++ d ∷ back)) j ≡ length (concat front) + length d
end_of-block front d [] j is fits =
    let docs = front ++ d ∷ [] in
    let last : ltb (j + 1) (count_of (block docs)) ≡ false = le-ltb (j + 1) (count_of (block docs)) (omega (arith, is, count_of-block docs fits, length-append front (d ∷ []))) in
    let size : length (concat docs) ≡ length (concat front) + length (d ++ []) = ap length (concat-append front (d ∷ [])) ∙ length-append (concat front) (d ++ []) in
    cond-false (ltb (j + 1) (count_of (block docs))) (start_of (block docs) (j + 1)) (table_of (block docs)) last ∙ table_of-block docs fits ∙ omega (arith, size, length-append d [])
end_of-block front d (e ∷ back) j is fits =
    let docs = front ++ d ∷ (e ∷ back) in
    let further : ltb (j + 1) (count_of (block docs)) ≡ true = lt-ltb (j + 1) (count_of (block docs)) (omega (arith, is, count_of-block docs fits, length-append front (d ∷ (e ∷ back)))) in
    let shifted : docs ≡ (front ++ d ∷ []) ++ e ∷ back = sym (append_assoc front (d ∷ []) (e ∷ back)) in
    let next : start_of (block ((front ++ d ∷ []) ++ e ∷ back)) (j + 1) ≡ length (concat (front ++ d ∷ [])) =
    start_of-block (front ++ d ∷ []) e back (j + 1) (omega (arith, is, length-append front (d ∷ []))) (subst (λ (x : List (List ℕ)). length (block x) < 2 ^ 32) shifted fits) in
    let size : length (concat (front ++ d ∷ [])) ≡ length (concat front) + length (d ++ []) = ap length (concat-append front (d ∷ [])) ∙ length-append (concat front) (d ++ []) in
    cond-true (ltb (j + 1) (count_of (block docs))) (start_of (block docs) (j + 1)) (table_of (block docs)) further
    ∙ ap (λ (x : List (List ℕ)). start_of (block x) (j + 1)) shifted ∙ next ∙ omega (arith, size, length-append d [])

-- ---- the slots

-- where all holds that a sound slot needs
all_tests : (len count table start end j : ℕ) → 4 ≤ len → 4 * (count + 1) ≤ len → j < count → start ≤ end → end ≤ table
    → (leb 4 len && leb (4 * (count + 1)) len && ltb j count && leb start end && leb end table) ≡ true
all_tests len count table start end j a b c d e =
    and_from _ _ (and_from _ _ (and_from _ _ (and_from _ _ (le-leb 4 len a) (le-leb (4 * (count + 1)) len b)) (lt-ltb j count c)) (le-leb start end d)) (le-leb end table e)

-- the slot of a document is the document
slot-block : (front : List (List ℕ)) (d : List ℕ) (back : List (List ℕ)) (j : ℕ) → j ≡ length front → length (block (front ++ d ∷ back)) < 2 ^ 32 → slot (block (front ++ d ∷ back)) j ≡ doc d
slot-block front d back j is fits =
    let docs = front ++ d ∷ back in
    let count = count_of-block docs fits in
    let table = table_of-block docs fits in
    let start = start_of-block front d back j is fits in
    let end = end_of-block front d back j is fits in
    let size : length (concat docs) ≡ length (concat front) + length (d ++ concat back) = ap length (concat-append front (d ∷ back)) ∙ length-append (concat front) (d ++ concat back) in
    let len = length-append d (concat back) in
    let docs_len = length-append front (d ∷ back) in
    let sound : is_sound (block docs) j ≡ true = all_tests (length (block docs)) (count_of (block docs)) (table_of (block docs)) (start_of (block docs) j) (end_of (block docs) j) j
    (omega (arith, length-block docs)) (omega (arith, count, length-block docs)) (omega (arith, is, count, docs_len)) (omega (arith, start, end)) (omega (arith, end, table, size, len)) in
    let bytes : block docs ≡ concat front ++ (d ++ (concat back ++ (flat_map (fixed 4) (starts_from 0 docs) ++ fixed 4 (length docs)))) =
    ap (λ (x : List ℕ). (x ++ flat_map (fixed 4) (starts_from 0 docs)) ++ fixed 4 (length docs)) (concat-append front (d ∷ back)) ∙ simp append_assoc in
    cond-true (is_sound (block docs) j) (doc (slice_range (block docs) (start_of (block docs) j) (end_of (block docs) j))) damaged sound
    ∙ ap doc (ap (λ (x : List ℕ). slice_range x (start_of (block docs) j) (end_of (block docs) j)) bytes
    ∙ slice_between (concat front) d (concat back ++ (flat_map (fixed 4) (starts_from 0 docs) ++ fixed 4 (length docs))) (start_of (block docs) j) (end_of (block docs) j) start end)

-- the slots of the documents after a front
slots_following : (front back : List (List ℕ)) (j : ℕ) → j ≡ length front → length (block (front ++ back)) < 2 ^ 32 → map (slot (block (front ++ back))) (range_with_len j (length back)) ≡ map doc back
slots_following front [] j is fits = refl
slots_following front (d ∷ back) j is fits =
    let shifted : front ++ d ∷ back ≡ (front ++ d ∷ []) ++ back = sym (append_assoc front (d ∷ []) back) in
    let first = slot-block front d back j is fits in
    let others = slots_following (front ++ d ∷ []) back (j + 1) (omega (arith, is, length-append front (d ∷ []))) (subst (λ (x : List (List ℕ)). length (block x) < 2 ^ 32) shifted fits) in
    let moved : map (slot (block (front ++ d ∷ back))) (range_with_len (j + 1) (length back)) ≡ map doc back =
    ap (λ (x : List (List ℕ)). map (slot (block x)) (range_with_len (j + 1) (length back))) shifted ∙ others in
    λ i. first i ∷ moved i

-- the slots of a block are its documents
pub blocks_hold_documents : BlocksHoldDocuments
blocks_hold_documents docs fits = append-nil (map (slot (block docs)) (range_with_len 0 (length docs))) ∙ slots_following [] docs 0 refl fits
