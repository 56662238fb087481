-- Where the documents lie in the bytes of a store's file.
use Rattle.std.proofs.Common.{◌≡◌, ℕ, zero, suc, ◌+◌, ◌-◌, ◌<◌, ◌≤◌, true, false, List, [], ◌∷◌, length, take, nat_lt, Some, None, refl, sym, ap, ◌∙◌, subst, arith}
use Rattle.std.specs.Prelude.{slice_range, slice_get}
use Rattle.std.proofs.lemmas.Bool.{lt-ltb, le-ltb}
use Rattle.store_base.proofs.Ranges.{part_of_part}
use Rattle.layered_index.specs.declared.checkpoint.Checkpoint.{Checkpoint}
use Rattle.layered_index.specs.Checkpoint.{IsInLineFrom, bytes_end, docs_end, first_past}
use Rattle.store_format.specs.declared.version.DocStoreVersion.{DocStoreVersion}
use Rattle.store_format.specs.Block.{slot}
use Rattle.store_reader.specs.Reading.{part_of}
use Rattle.store_format.specs.Slots.{slots}
use Rattle.store_format.specs.StoreFile.{StoreBlock, blocks_at, checkpoints_of}
use Rattle.store_reader.specs.Finding.{IsStoreBy, data_in}
use Rattle.store_reader.proofs.ReaderStoreLemmas.{blocks_of, store_is, store_seen}
use Rattle.store_reader.proofs.SeekLemmas.{within, none_past}
use Rattle.store_reader.proofs.StoreSlotLemmas.{slot_sought, slot_past, length-slots_of}

-- ---- places

-- a list cut at its own length is no shorter than that
cut_within : (n : ℕ) (xs : List ℕ) → n ≡ length (take n xs) → n ≤ length xs
cut_within zero xs e = omega arith
cut_within (suc n) [] e = absurd cc
cut_within (suc n) (x ∷ xs) e = let on = cut_within n xs (omega arith) in omega arith

-- where the block of a document that a seek finds lies
pub record IsPlaced (file : List ℕ) (cs : List Checkpoint) (id : ℕ) (c : Checkpoint) : Type 0 where
  pub from : c.doc_range.start ≤ id
  pub to : id < c.doc_range.end
  pub order : c.byte_range.start ≤ c.byte_range.end
  pub end : c.byte_range.end ≤ length file
  pub part : part_of (data_in file cs) c ≡ slice_range file c.byte_range.start c.byte_range.end

pub placed : (file : List ℕ) (cs : List Checkpoint) (period : ℕ) (version : DocStoreVersion) (id : ℕ) (c : Checkpoint)
    → IsStoreBy file cs period version → first_past cs id ≡ Some c → IsPlaced file cs id c
placed file cs period version id c v e =
    let w = within 0 0 cs id c (omega arith) v.covers.in_line e in
    let low = w.end in let order = w.order in
    let size : bytes_end 0 cs ≡ length (data_in file cs) = v.covers.end in
    let whole : bytes_end 0 cs - 0 ≡ bytes_end 0 cs = omega arith in
    let first : 0 + c.byte_range.start ≡ c.byte_range.start = omega arith in
    let last : 0 + c.byte_range.end ≡ c.byte_range.end = omega arith in
    let few = cut_within (bytes_end 0 cs) file (size ∙ ap (λ (n : ℕ). length (take n file)) whole) in
    record {
      from = w.from;
      to = w.to;
      order = w.order;
      end = omega arith;
      part = sym (part_of_part file (data_in file cs) 0 (bytes_end 0 cs) c.byte_range.start c.byte_range.end refl (omega arith) few order (omega arith)) ∙ (λ i. slice_range file (first i) (last i));
    }

-- the slot of a document is that of its place in the block that a seek finds
pub slot_placed : (file : List ℕ) (cs : List Checkpoint) (period : ℕ) (version : DocStoreVersion) (id : ℕ) (c : Checkpoint) → IsStoreBy file cs period version → first_past cs id ≡ Some c
    → slice_get (slots (blocks_at cs (data_in file cs))) id ≡ Some (slot (slice_range file c.byte_range.start c.byte_range.end) (id - c.doc_range.start))
slot_placed file cs period version id c v e =
    let text = data_in file cs in
    let whole : id - 0 ≡ id = omega arith in
    ap (λ (bs : List StoreBlock). slice_get (slots bs) id) (store_is text cs v.covers)
    ∙ ap (slice_get (slots (blocks_of text cs))) (sym whole)
    ∙ slot_sought text 0 0 cs id c v.covers.in_line (omega arith) e
    ∙ ap (λ (b : List ℕ). Some (slot b (id - c.doc_range.start))) (placed file cs period version id c v e).part

-- there is none where a seek finds none
pub slot_none : (file : List ℕ) (cs : List Checkpoint) (period : ℕ) (version : DocStoreVersion) (id : ℕ) → IsStoreBy file cs period version
    → first_past cs id ≡ None → slice_get (slots (blocks_at cs (data_in file cs))) id ≡ None
slot_none file cs period version id v e =
    let text = data_in file cs in
    ap (λ (bs : List StoreBlock). slice_get (slots bs) id) (store_is text cs v.covers)
    ∙ slot_past text 0 cs id v.covers.in_line (none_past 0 0 cs id v.covers.in_line e (omega arith))

-- how many there are
pub count_is : (file : List ℕ) (cs : List Checkpoint) (period : ℕ) (version : DocStoreVersion) → IsStoreBy file cs period version → docs_end 0 cs ≡ length (slots (blocks_at cs (data_in file cs)))
count_is file cs period version v =
    let text = data_in file cs in
    let same = ap (λ (bs : List StoreBlock). length (slots bs)) (store_is text cs v.covers) in
    let count = length-slots_of text 0 0 cs v.covers.in_line in
    omega arith

-- a document of the block lies in the file
pub doc_placed : (file : List ℕ) (cs : List Checkpoint) (id from to : ℕ) (c : Checkpoint) → IsPlaced file cs id c → from ≤ to → to ≤ length (slice_range file c.byte_range.start c.byte_range.end)
    → slice_range file (c.byte_range.start + from) (c.byte_range.start + to) ≡ slice_range (slice_range file c.byte_range.start c.byte_range.end) from to
doc_placed file cs id from to c p order inside = part_of_part file _ c.byte_range.start c.byte_range.end from to refl p.order p.end order inside

-- ---- the block of a document

-- what a seek finds begins no sooner than the first
starts_above : (first byte : ℕ) (cs : List Checkpoint) (id : ℕ) (c : Checkpoint) → IsInLineFrom first byte cs → first_past cs id ≡ Some c → first ≤ c.doc_range.start
starts_above first byte [] id c r e = absurd cc
starts_above first byte (x ∷ cs) id c r e = (elim (nat_lt id x.doc_range.end) as (λ y. nat_lt id x.doc_range.end ≡ y → first ≤ c.doc_range.start) [
  | true ↦ λ t. let e' = rw t at e in let same : x ≡ c = cc in subst (λ (y : Checkpoint). first ≤ y.doc_range.start) same (omega (arith, r.0))
  | false ↦ λ t. let on = starts_above x.doc_range.end x.byte_range.end cs id c r.3 (rw t at e) in omega (arith, on, r.0, r.2.doc_order)
]) refl

-- a seek finds it for each of its documents
pub seek_stays : (first byte : ℕ) (cs : List Checkpoint) (id k : ℕ) (c : Checkpoint) → IsInLineFrom first byte cs → first_past cs id ≡ Some c
    → c.doc_range.start ≤ k → k < c.doc_range.end → first_past cs k ≡ Some c
seek_stays first byte [] id k c r e from to = absurd cc
seek_stays first byte (x ∷ cs) id k c r e from to = (elim (nat_lt id x.doc_range.end) as (λ y. nat_lt id x.doc_range.end ≡ y → first_past (x ∷ cs) k ≡ Some c) [
  | true ↦ λ t. let e' = rw t at e in let same : x ≡ c = cc in
      let below : k < x.doc_range.end = subst (λ (y : Checkpoint). k < y.doc_range.end) (sym same) to in
      rw (lt-ltb k x.doc_range.end below) (ap Some same)
  | false ↦ λ t.
      let found = rw t at e in
      let past = starts_above x.doc_range.end x.byte_range.end cs id c r.3 found in
      rw (le-ltb k x.doc_range.end (omega arith)) (seek_stays x.doc_range.end x.byte_range.end cs id k c r.3 found from to)
]) refl

-- ---- the checkpoints

-- the checkpoints are those of the store
pub checkpoints_are : (file : List ℕ) (cs : List Checkpoint) (period : ℕ) (version : DocStoreVersion) → IsStoreBy file cs period version → checkpoints_of (blocks_at cs (data_in file cs)) ≡ cs
checkpoints_are file cs period version v = (store_seen (data_in file cs) cs v.covers).checkpoints_are
