-- The slots of the store that a reader sees.
use Rattle.std.proofs.Common.{◌≡◌, ℕ, zero, suc, ◌+◌, ◌-◌, ◌<◌, ◌≤◌, true, false, List, [], ◌∷◌, ◌++◌, length, map, nat_lt, Some, None, refl, ap, ◌∙◌, arith, length-append}
use Rattle.std.specs.Prelude.{slice_get}
use Rattle.std.specs.List.{range_with_len}
use Rattle.std.proofs.lemmas.Bool.{ltb-true, ltb-false}
use Rattle.std.proofs.lemmas.Option.{slice_get_past}
use Rattle.store_base.proofs.ListLemmas.{get_front, get_back}
use Rattle.layered_index.specs.declared.checkpoint.Checkpoint.{Checkpoint}
use Rattle.layered_index.specs.Checkpoint.{IsInLineFrom, docs_end, doc_count, first_past}
use Rattle.store_format.specs.Block.{Slot, slot}
use Rattle.store_format.specs.Slots.{slots}
use Rattle.store_reader.specs.Reading.{part_of}
use Rattle.store_reader.proofs.ReaderStoreLemmas.{blocks_of}

-- the slots of one block
slots_in : List ℕ → Checkpoint → List Slot
slots_in content c = map (slot (part_of content c)) (range_with_len 0 (doc_count c))

pub range_len : (a n : ℕ) → length (range_with_len a n) ≡ n
range_len a zero = refl
range_len a (suc n) = ap suc (range_len (a + 1) n)

pub map_len : {A B : Type 0} (f : A → B) (xs : List A) → length (map f xs) ≡ length xs
map_len f [] = refl
map_len f (x ∷ xs) = ap suc (map_len f xs)

length-slots_in : (content : List ℕ) (c : Checkpoint) → length (slots_in content c) ≡ doc_count c
unfolding slots_in
length-slots_in content c = map_len (slot (part_of content c)) (range_with_len 0 (doc_count c)) ∙ range_len 0 (doc_count c)

get_mapped : (f : ℕ → Slot) (a n k : ℕ) → k < n → slice_get (map f (range_with_len a n)) k ≡ Some (f (a + k))
get_mapped f a zero k lt = absurd (omega arith)
get_mapped f a (suc n) zero lt = let e : a + 0 ≡ a = omega arith in rw e refl
get_mapped f a (suc n) (suc k) lt = let e : a + suc k ≡ (a + 1) + k = omega arith in rw e (get_mapped f (a + 1) n k (omega arith))

-- the slot of a document is that of its place in the block that a seek finds
pub slot_sought : (content : List ℕ) (doc byte : ℕ) (cs : List Checkpoint) (id : ℕ) (c : Checkpoint) → IsInLineFrom doc byte cs → doc ≤ id → first_past cs id ≡ Some c
    → slice_get (slots (blocks_of content cs)) (id - doc) ≡ Some (slot (part_of content c) (id - c.doc_range.start))
unfolding slots_in
slot_sought content doc byte [] id c r le e = absurd cc
slot_sought content doc byte (x ∷ cs) id c r le e =
    let order = r.2.doc_order in let start = r.0 in
    let size = length-slots_in content x in
    (elim (nat_lt id x.doc_range.end) as (λ y. nat_lt id x.doc_range.end ≡ y → slice_get (slots_in content x ++ slots (blocks_of content cs)) (id - doc)
    ≡ Some (slot (part_of content c) (id - c.doc_range.start))) [
      | true ↦ λ t.
          let e' = rw t at e in let same : x ≡ c = cc in
          let below = ltb-true _ _ t in
          let place : 0 + (id - doc) ≡ id - x.doc_range.start = omega arith in
          get_front (slots_in content x) (slots (blocks_of content cs)) (id - doc) (omega arith)
          ∙ get_mapped (slot (part_of content x)) 0 (doc_count x) (id - doc) (omega arith)
          ∙ ap (λ (j : ℕ). Some (slot (part_of content x) j)) place
          ∙ ap (λ (y : Checkpoint). Some (slot (part_of content y) (id - y.doc_range.start))) same
      | false ↦ λ t.
          let above = ltb-false _ _ t in
          let place : id - doc ≡ length (slots_in content x) + (id - x.doc_range.end) = omega arith in
          get_back (slots_in content x) (slots (blocks_of content cs)) (id - doc) (id - x.doc_range.end) place
          ∙ slot_sought content x.doc_range.end x.byte_range.end cs id c r.3 above (rw t at e)
    ]) refl

pub length-slots_of : (content : List ℕ) (doc byte : ℕ) (cs : List Checkpoint) → IsInLineFrom doc byte cs → doc + length (slots (blocks_of content cs)) ≡ docs_end doc cs
unfolding slots_in
length-slots_of content doc byte [] r = omega arith
length-slots_of content doc byte (c ∷ cs) r =
    let order = r.2.doc_order in let start = r.0 in
    omega (arith, length-append (slots_in content c) (slots (blocks_of content cs)), length-slots_in content c, length-slots_of content c.doc_range.end c.byte_range.end cs r.3)

-- there is none at or past the count
pub slot_past : (content : List ℕ) (byte : ℕ) (cs : List Checkpoint) (id : ℕ) → IsInLineFrom 0 byte cs → docs_end 0 cs ≤ id → slice_get (slots (blocks_of content cs)) id ≡ None
slot_past content byte cs id r le = slice_get_past (slots (blocks_of content cs)) id (omega (arith, length-slots_of content 0 byte cs r))
