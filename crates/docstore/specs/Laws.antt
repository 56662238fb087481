-- What writers promise.
use Rattle.std.specs.Prelude.{◌≡◌, ℕ, ◌<◌, ◌^◌, List, [], ◌∷◌, ◌++◌, length, map}
use Rattle.std.specs.List.{flat_map}
use Rattle.store_format.specs.Block.{Slot, doc, block}
use Rattle.store_format.specs.Slots.{slots}
use Rattle.store_format.specs.StoreFile.{StoreBlock, AreBlocks, file, reserved_of, IsStore}
use Rattle.store_reader.specs.Reading.{Reading, num_docs as docs_of}
use Rattle.docstore.specs.Stacking.{AreRead, with_store}
use Rattle.docstore.specs.Writer.{Writing, num_docs, flushed, with_document}

-- what a writer has taken: the slots of its finished blocks, and then the pending documents
abbrev pub taken : Writing → List Slot
taken w = slots w.output.finished ++ map doc w.pending

-- the file that a close writes
abbrev pub file_of : Writing → List ℕ
file_of w = file w.output.period 3 (flushed w).output.finished

-- Whatever store is found in the file of a close, its slots are what the writer had taken.
abbrev pub WrittenDocumentsAreFound : Type 0
WrittenDocumentsAreFound = (w : Writing) (period version : ℕ) (bs : List StoreBlock)
    → IsStore w.output.period (file_of w) 3 (flushed w).output.finished → IsStore period (file_of w) version bs
    → slots bs ≡ taken w

-- One more document appends its slot, whether it fills a block or not.
abbrev pub DocumentsAreTakenInOrder : Type 0
DocumentsAreTakenInOrder = (w : Writing) (document : List ℕ) → length (block (w.pending ++ document ∷ [])) < 2 ^ 32
    → taken (with_document w document) ≡ taken w ++ doc document ∷ []

-- There is a slot for each document that was taken, so the next document's id is its place.
abbrev pub IdsAreGivenInOrder : Type 0
IdsAreGivenInOrder = (w : Writing) → length (taken w) ≡ num_docs w

-- Pending documents that are written as a block keep their slots.
abbrev pub FlushesKeepSlots : Type 0
FlushesKeepSlots = (w : Writing) → AreBlocks (flushed w).output.finished → taken (flushed w) ≡ taken w

-- The slots of a store that is stacked are appended.
abbrev pub StoresAreStackedInOrder : Type 0
StoresAreStackedInOrder = (w : Writing) (bs : List StoreBlock) → AreBlocks (with_store w bs).output.finished
    → taken (with_store w bs) ≡ taken w ++ slots bs

-- Whatever bytes were read from a reader's file, they have as many slots as the reader has documents.
abbrev pub StackedSlotsAreCounted : Type 0
StackedSlotsAreCounted = (reader : Reading) (bs : List StoreBlock) → AreRead reader bs
    → length (slots bs) ≡ docs_of reader

-- these stores stacked, one after the other
abbrev pub stacked : Writing → List (List StoreBlock) → Writing
stacked w [] = w
stacked w (bs ∷ stores) = stacked (with_store w bs) stores

-- Where nothing is pending, a close after stackings writes the file of all their blocks, joined.
abbrev pub StackedFilesAreJoined : Type 0
StackedFilesAreJoined = (w : Writing) (stores : List (List StoreBlock)) → w.pending ≡ []
    → file_of (stacked w stores) ≡ file w.output.period 3 (w.output.finished ++ flat_map (λ bs. bs) stores)

-- So it doesn't matter which of three stores were stacked to one before.
abbrev pub StackingIsAssociative : Type 0
StackingIsAssociative = (w : Writing) (bs cs ds : List StoreBlock) → w.pending ≡ []
    → file_of (stacked w ((bs ++ cs) ∷ ds ∷ [])) ≡ file_of (stacked w (bs ∷ (cs ++ ds) ∷ []))

-- A file of the writer's period whose reserved bytes are those that are written is written again where its store is
-- stacked alone.
abbrev pub StackedAloneIsTheSame : Type 0
StackedAloneIsTheSame = (w : Writing) (bytes : List ℕ) (bs : List StoreBlock)
    (store : IsStore w.output.period bytes 3 bs) → store.reserved ≡ reserved_of w.output.period 3 → w.pending ≡ []
    → w.output.finished ≡ [] → file_of (with_store w bs) ≡ bytes
