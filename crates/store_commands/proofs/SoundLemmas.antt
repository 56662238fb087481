-- A sound block is the block of its documents.
use Rattle.std.proofs.Common.{◌≡◌, ℕ, zero, suc, ◌+◌, ◌-◌, ◌*◌, ◌^◌, ◌<◌, ◌≤◌, Bool, true, false, List, [], ◌∷◌, ◌++◌, length, map, drop, refl, sym, ap, ◌∙◌, arith}
use Rattle.std.specs.Prelude.{slice_range, not, ◌&&◌, ◌||◌, nat_le, ◌==◌}
use Rattle.std.specs.List.{concat, flat_map, list_any}
use Rattle.std.proofs.lemmas.Bool.{lt-ltb, le-ltb, le-leb, leb-true, and_from}
use Rattle.std.proofs.lemmas.Bool.Decides.{nat_tests}
use Rattle.store_base.specs.Serialize.{IsBytes, fixed}
use Rattle.store_base.proofs.FixedReads.{wide32}
use Rattle.store_base.proofs.RecordTexts.{octets, bytes_front}
use Rattle.store_format.specs.Block.{slot, doc, damaged, block, starts_from, u32_at, count_of, table_of, start_of, end_of, is_sound as is_slot_sound}
use Rattle.store_reader.proofs.ReaderStoreLemmas.{slices_joined, all_of}
use Rattle.store_commands.specs.Checks.{is_damaged, slots_in, has_table}
use Rattle.store_format.proofs.BlockLemmas.{length-block}
use Rattle.store_format.proofs.DocumentLemmas.{count_of-block, start_of-block, blocks_hold_documents}
use Rattle.std.proofs.lemmas.List.{append-nil}
use Rattle.store_base.proofs.ListLemmas.{length-slice, both}
use Rattle.store_commands.specs.Laws.{SoundBlocksAreOfDocuments, BlocksOfDocumentsAreSound}
use Rattle.store_commands.proofs.CountLemmas.{one_damaged}

-- ---- numbers of four bytes

bytes_back : (n : ℕ) (bytes : List ℕ) → IsBytes bytes → IsBytes (drop n bytes)
bytes_back zero bytes h = h
bytes_back (suc n) [] h = tt
bytes_back (suc n) (b ∷ bytes) h = bytes_back n bytes h.1

-- the four bytes of a number are those that it was read from
spelled_at : (bytes : List ℕ) (place end : ℕ) → IsBytes bytes → end ≡ place + 4 → end ≤ length bytes → fixed 4 (u32_at bytes place) ≡ slice_range bytes place end
unfolding u32_at
spelled_at bytes place end h e within =
    let four : length (slice_range bytes place (place + 4)) ≡ 4 = omega (arith, length-slice bytes place (place + 4) (omega arith)) in
    wide32.back (slice_range bytes place (place + 4)) four (octets (slice_range bytes place (place + 4)) (bytes_front ((place + 4) - place) (drop place bytes) (bytes_back place bytes h)))
    ∙ ap (slice_range bytes place) (sym e)

-- ---- a block whose documents follow one another

-- The table lies in the block, and each document lies before it.
record IsTabled (bytes : List ℕ) (n : ℕ) : Type 0 where
  fits : 4 * (n + 1) ≤ length bytes
  count : count_of bytes ≡ n
  each : (j : ℕ) → j < n → (start_of bytes j ≤ end_of bytes j) × (end_of bytes j ≤ table_of bytes)

-- where the last so many documents begin
from_here : List ℕ → ℕ → ℕ → ℕ
from_here bytes j zero = table_of bytes
from_here bytes j (suc k) = start_of bytes j

-- so many documents from this one on
docs_from : List ℕ → ℕ → ℕ → List (List ℕ)
docs_from bytes j zero = []
docs_from bytes j (suc k) = slice_range bytes (start_of bytes j) (end_of bytes j) ∷ docs_from bytes (j + 1) k

length-docs_from : (bytes : List ℕ) (j k : ℕ) → length (docs_from bytes j k) ≡ k
unfolding docs_from
length-docs_from bytes j zero = refl
length-docs_from bytes j (suc k) = ap suc (length-docs_from bytes (j + 1) k)

-- a document ends where the next one begins, and the last one at the table
end_is : (bytes : List ℕ) (n j k : ℕ) → IsTabled bytes n → j + suc k ≡ n → end_of bytes j ≡ from_here bytes (j + 1) k
unfolding from_here
end_is bytes n j zero h e = rw (le-ltb (j + 1) (count_of bytes) (omega (arith, h.count))) refl
end_is bytes n j (suc k) h e = rw (lt-ltb (j + 1) (count_of bytes) (omega (arith, h.count))) refl

table_place : (bytes : List ℕ) (n : ℕ) → IsTabled bytes n → table_of bytes + 4 * (n + 1) ≡ length bytes
table_place bytes n h = let size : 4 * (count_of bytes + 1) ≡ 4 * (n + 1) = ap (λ (c : ℕ). 4 * (c + 1)) h.count in omega (arith, h.fits)

nothing : (bytes : List ℕ) (place end : ℕ) → end ≡ place → [] ≡ slice_range bytes place end
nothing bytes place end e = let none : end - place ≡ 0 = omega arith in rw none refl

joined_from : (bytes : List ℕ) (n j k : ℕ) → IsTabled bytes n → j + k ≡ n → concat (docs_from bytes j k) ≡ slice_range bytes (from_here bytes j k) (table_of bytes)
unfolding docs_from from_here
joined_from bytes n j zero h e = nothing bytes (table_of bytes) (table_of bytes) refl
joined_from bytes n j (suc k) h e =
    let next = from_here bytes (j + 1) k in
    let end : end_of bytes j ≡ next = end_is bytes n j k h e in
    let order = h.each j (omega arith) in
    ap (λ (xs : List ℕ). slice_range bytes (start_of bytes j) (end_of bytes j) ++ xs) (joined_from bytes n (j + 1) k h (omega arith))
    ∙ ap (λ (m : ℕ). slice_range bytes (start_of bytes j) m ++ slice_range bytes next (table_of bytes)) end
    ∙ sym (slices_joined bytes (start_of bytes j) next (table_of bytes) (omega (arith, order.0, end)) (omega (arith, order.1, end)))

table_from : (bytes : List ℕ) (n j k : ℕ) → IsBytes bytes → IsTabled bytes n → j + k ≡ n
    → flat_map (fixed 4) (starts_from (from_here bytes j k) (docs_from bytes j k)) ≡ slice_range bytes (table_of bytes + 4 * j) (table_of bytes + 4 * n)
unfolding docs_from from_here
table_from bytes n j zero b h e = nothing bytes (table_of bytes + 4 * j) (table_of bytes + 4 * n) (omega arith)
table_from bytes n j (suc k) b h e =
    let start = start_of bytes j in let end = end_of bytes j in let next = from_here bytes (j + 1) k in
    let order = h.each j (omega arith) in
    let place = table_place bytes n h in
    let size : length (slice_range bytes start end) ≡ end - start = length-slice bytes start end (omega (arith, order.1, place)) in
    let on : start + length (slice_range bytes start end) ≡ next = omega (arith, size, order.0, end_is bytes n j k h e) in
    let this : fixed 4 start ≡ slice_range bytes (table_of bytes + 4 * j) (table_of bytes + 4 * (j + 1)) =
    spelled_at bytes (table_of bytes + 4 * j) (table_of bytes + 4 * (j + 1)) b (omega arith) (omega (arith, place)) in
    ap (λ (m : ℕ). fixed 4 start ++ flat_map (fixed 4) (starts_from m (docs_from bytes (j + 1) k))) on
    ∙ ap (λ (xs : List ℕ). fixed 4 start ++ xs) (table_from bytes n (j + 1) k b h (omega arith))
    ∙ ap (λ (xs : List ℕ). xs ++ slice_range bytes (table_of bytes + 4 * (j + 1)) (table_of bytes + 4 * n)) this
    ∙ sym (slices_joined bytes (table_of bytes + 4 * j) (table_of bytes + 4 * (j + 1)) (table_of bytes + 4 * n) (omega arith) (omega arith))

-- the whole block, whose first document begins at byte 0
whole_block : (bytes : List ℕ) (n : ℕ) → IsBytes bytes → IsTabled bytes n → from_here bytes 0 n ≡ 0 → bytes ≡ block (docs_from bytes 0 n)
whole_block bytes n b h first =
    let t = table_of bytes in
    let place = table_place bytes n h in
    let documents : concat (docs_from bytes 0 n) ≡ slice_range bytes 0 t = joined_from bytes n 0 n h (omega arith) ∙ ap (λ (m : ℕ). slice_range bytes m t) first in
    let zero_place : t + 4 * 0 ≡ t = omega arith in
    let starts : flat_map (fixed 4) (starts_from 0 (docs_from bytes 0 n)) ≡ slice_range bytes t (t + 4 * n) =
    ap (λ (m : ℕ). flat_map (fixed 4) (starts_from m (docs_from bytes 0 n))) (sym first) ∙ table_from bytes n 0 n b h (omega arith) ∙ ap (λ (m : ℕ). slice_range bytes m (t + 4 * n)) zero_place in
    let last : length bytes - 4 ≡ t + 4 * n = omega (arith, place) in
    let number : fixed 4 (length (docs_from bytes 0 n)) ≡ slice_range bytes (t + 4 * n) (length bytes) =
    ap (fixed 4) (length-docs_from bytes 0 n ∙ sym h.count)
    ∙ spelled_at bytes (length bytes - 4) (length bytes) b (omega (arith, place)) (omega arith) ∙ ap (λ (m : ℕ). slice_range bytes m (length bytes)) last in
    sym (all_of bytes (length bytes) refl)
    ∙ slices_joined bytes 0 (t + 4 * n) (length bytes) (omega arith) (omega (arith, place))
    ∙ ap (λ (xs : List ℕ). xs ++ slice_range bytes (t + 4 * n) (length bytes)) (slices_joined bytes 0 t (t + 4 * n) (omega arith) (omega arith))
    ∙ (λ i. (sym documents i ++ sym starts i) ++ sym number i)

-- ---- sound blocks

second_of : (a b : Bool) → a ≡ false → (a || b) ≡ true → b ≡ true
second_of false b f e = e
second_of true b f e = absurd cc

-- a slot that is not damaged is sound
slot_is_sound : (bytes : List ℕ) (n j : ℕ) → list_any is_damaged (slots_in bytes n) ≡ false → j < n → is_slot_sound bytes j ≡ true
slot_is_sound bytes n j none lt = (elim (is_slot_sound bytes j) as (λ x. is_slot_sound bytes j ≡ x → is_slot_sound bytes j ≡ true) [
  | true ↦ λ e. e
  | false ↦ λ e. absurd (let gone : slot bytes j ≡ damaged = rw e refl in let bad = sym none ∙ one_damaged bytes n j lt gone in cc)
]) refl

none_of : (b : Bool) → not b ≡ true → b ≡ false
none_of false e = refl
none_of true e = absurd cc

tabled : (bytes : List ℕ) (n : ℕ) → has_table bytes n ≡ true → list_any is_damaged (slots_in bytes n) ≡ false → IsTabled bytes n
tabled bytes n table none =
    let parts = both (nat_le (4 * (n + 1)) (length bytes) && (count_of bytes == n)) ((n == 0) || (start_of bytes 0 == 0)) table in
    let front = both (nat_le (4 * (n + 1)) (length bytes)) (count_of bytes == n) parts.0 in
    record {
      fits = leb-true (4 * (n + 1)) (length bytes) front.0;
      count = grind (arith, nat_tests, front.1);
      each = λ j lt.
          let sound = slot_is_sound bytes n j none lt in
          let x = both _ (nat_le (end_of bytes j) (table_of bytes)) sound in
          let y = both _ (nat_le (start_of bytes j) (end_of bytes j)) x.0 in
          (leb-true (start_of bytes j) (end_of bytes j) y.1, leb-true (end_of bytes j) (table_of bytes) x.1);
    }

begins : (bytes : List ℕ) (n : ℕ) → 0 < n → has_table bytes n ≡ true → from_here bytes 0 n ≡ 0
unfolding from_here
begins bytes zero some table = absurd (omega arith)
begins bytes (suc n) some table =
    let parts = both (nat_le (4 * (suc n + 1)) (length bytes) && (count_of bytes == suc n)) ((suc n == 0) || (start_of bytes 0 == 0)) table in
    let more : (suc n == 0) ≡ false = grind (arith, nat_tests) in
    let first = second_of (suc n == 0) (start_of bytes 0 == 0) more parts.1 in
    grind (arith, nat_tests)

pub sound_blocks_are_of_documents : SoundBlocksAreOfDocuments
sound_blocks_are_of_documents bytes n b some sound =
    let parts = both (has_table bytes n) (not (list_any is_damaged (slots_in bytes n))) sound in
    let h = tabled bytes n parts.0 (none_of (list_any is_damaged (slots_in bytes n)) parts.1) in
    record { documents = docs_from bytes 0 n; count_is = length-docs_from bytes 0 n; are = whole_block bytes n b h (begins bytes n some parts.0) }

-- ---- blocks of documents

none_among : (docs : List (List ℕ)) → list_any is_damaged (map doc docs) ≡ false
none_among [] = refl
none_among (d ∷ docs) = none_among docs

has_table_of : (docs : List (List ℕ)) → length (block docs) < 2 ^ 32 → has_table (block docs) (length docs) ≡ true
has_table_of docs fits = and_from _ _ (and_from _ _ (le-leb (4 * (length docs + 1)) (length (block docs)) (omega (arith, length-block docs))) count) (first docs fits)
  where
    count : (count_of (block docs) == length docs) ≡ true
    count = let same = count_of-block docs fits in grind (arith, nat_tests)

    either : (a b : Bool) → b ≡ true → (a || b) ≡ true
    either true b e = refl
    either false b e = e

    first : (docs : List (List ℕ)) → length (block docs) < 2 ^ 32 → ((length docs == 0) || (start_of (block docs) 0 == 0)) ≡ true
    first [] fits = refl
    first (d ∷ docs) fits =
        either (length (d ∷ docs) == 0) (start_of (block (d ∷ docs)) 0 == 0) (let start : start_of (block (d ∷ docs)) 0 ≡ 0 = start_of-block [] d docs 0 refl fits in grind (arith, nat_tests))

pub blocks_of_documents_are_sound : BlocksOfDocumentsAreSound
blocks_of_documents_are_sound docs fits =
    let held : slots_in (block docs) (length docs) ≡ map doc docs = sym (append-nil (slots_in (block docs) (length docs))) ∙ blocks_hold_documents docs fits in
    and_from _ _ (has_table_of docs fits) (ap not (ap (list_any is_damaged) held ∙ none_among docs))
