-- What a writer has taken is what a reader of its file finds.
use Rattle.std.proofs.Common.{◌≡◌, ℕ, ◌^◌, ◌<◌, Bool, true, false, List, [], ◌∷◌, ◌++◌, length, map, if◌then◌else◌, nat_lt, refl, sym, ◌∙◌, ap, arith, append_assoc, length-append}
use Rattle.std.proofs.lemmas.List.{append-nil, map-append}
use Rattle.std.proofs.lemmas.List.Concat.{flat_map-append}
use Rattle.std.specs.List.{range_with_len, AllByRecursion}
use Rattle.store_format.specs.Block.{Slot, doc, slot, block}
use Rattle.store_format.specs.Slots.{slots}
use Rattle.store_format.specs.StoreFile.{StoreBlock, IsStoreBlock, docs_in}
use Rattle.docstore.specs.Trace.{weight}
use Rattle.store_format.specs.StoreFile.{block_of}
use Rattle.docstore.specs.Writer.{Writing, blocks_of, flushed}
use Rattle.docstore.specs.Laws.{taken, file_of, WrittenDocumentsAreFound, DocumentsAreTakenInOrder, IdsAreGivenInOrder}
use Rattle.store_format.proofs.ApartLemmas.{stores_are_apart}
use Rattle.store_format.proofs.DocumentLemmas.{blocks_hold_documents}
use Rattle.store_format.proofs.StoreLemmas.{docs_in-cons}
use Rattle.store_reader.proofs.StoreSlotLemmas.{range_len, map_len}

-- ---- flushing

-- the slots of joined stores
pub slots-append : (bs cs : List StoreBlock) → slots (bs ++ cs) ≡ slots bs ++ slots cs
slots-append bs cs = flat_map-append (λ (b : StoreBlock). map (slot b.bytes) (range_with_len 0 b.count)) bs cs

-- documents put after as a block bring their slots
pub slots_flushed : (bs : List StoreBlock) (docs : List (List ℕ)) → (0 < length docs → length (block docs) < 2 ^ 32) → slots (bs ++ blocks_of docs) ≡ slots bs ++ map doc docs
slots_flushed bs [] fits = ap slots (append-nil bs) ∙ sym (append-nil (slots bs))
slots_flushed bs (d ∷ docs) fits = slots-append bs (block_of (d ∷ docs) ∷ []) ∙ ap (λ (x : List Slot). slots bs ++ x) (blocks_hold_documents (d ∷ docs) (fits (omega arith)))

-- the last of the blocks of a store has fewer than 2^32 bytes
pub last_fits : (bs : List StoreBlock) (docs : List (List ℕ)) → AllByRecursion IsStoreBlock (bs ++ blocks_of docs) → 0 < length docs → length (block docs) < 2 ^ 32
last_fits bs [] each some = absurd (omega (arith, some))
last_fits [] (d ∷ docs) each some = each.0.few_bytes
last_fits (b ∷ bs) (d ∷ docs) each some = last_fits bs (d ∷ docs) each.1 some

-- the slots of a closed file are what was taken
pub written_documents_are_found : WrittenDocumentsAreFound
written_documents_are_found w period version bs written read =
    let same = stores_are_apart period w.output.period (file_of w) version 3 bs (flushed w).output.finished read written in
    ap slots same.2 ∙ slots_flushed w.output.finished w.pending (last_fits w.output.finished w.pending written.blocks.each)

-- ---- one more document

-- whether they are flushed or not
either_way : (full : Bool) (w : Writing) → length (block w.pending) < 2 ^ 32 → taken (if full then flushed w else w) ≡ taken w
either_way true w fits = append-nil (slots (w.output.finished ++ blocks_of w.pending)) ∙ slots_flushed w.output.finished w.pending (λ _. fits)
either_way false w fits = refl

-- a document is put after
pub documents_are_taken_in_order : DocumentsAreTakenInOrder
documents_are_taken_in_order w document fits =
    let more = record w { pending = w.pending ++ document ∷ [] } in
    either_way (nat_lt w.block_size (weight more.pending)) more fits
    ∙ ap (λ (x : List Slot). slots w.output.finished ++ x) (map-append doc w.pending (document ∷ []))
    ∙ sym (append_assoc (slots w.output.finished) (map doc w.pending) (doc document ∷ []))

-- ---- ids

-- each document has a slot
pub length-slots : (bs : List StoreBlock) → length (slots bs) ≡ docs_in bs
length-slots [] = refl
length-slots (b ∷ bs) =
    let here = map (slot b.bytes) (range_with_len 0 b.count) in
    omega (arith, length-append here (slots bs), map_len (slot b.bytes) (range_with_len 0 b.count), range_len 0 b.count, length-slots bs, docs_in-cons b bs)

-- the next id is the next place
pub ids_are_given_in_order : IdsAreGivenInOrder
ids_are_given_in_order w = omega (arith, length-append (slots w.output.finished) (map doc w.pending), length-slots w.output.finished, map_len doc w.pending)
