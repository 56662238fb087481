-- Putting a store after what a writer has.
use Rattle.std.specs.Prelude.{◌≡◌, ◌≢◌, ℕ, ◌+◌, ◌<◌, ◌≤◌, ◌^◌, IsTrue, List, [], ◌∷◌, Some, None}
use Rattle.std.specs.List.{AllByRecursion}
use Rattle.store_base.specs.Counts.{HasRisen}
use Rattle.store_base.specs.declared.error.StoreError.{StoreError}
use Rattle.store_base.specs.declared.error.StoreError.TheVariants.{Read, Memory, OldVersion, TooManyDocs, Failed}
use Rattle.store_format.specs.declared.version.DocStoreVersion.{DocStoreVersion}
use Rattle.store_format.specs.declared.version.DocStoreVersion.TheVariants.{V1}
use Rattle.layered_index.specs.declared.checkpoint.Checkpoint.{Checkpoint}
use Rattle.layered_index.specs.Checkpoint.{checkpoint, doc_count, byte_len, bytes_end, IsFilled, IsInLineFrom}
use Rattle.store_format.specs.StoreFile.{StoreBlock, checkpoints_of}
use Rattle.store_reader.specs.Reading.{Reading, num_docs as docs_of, store_of, IsReadWhole}
use Rattle.docstore.specs.BlockOutput.{BlockOutput, with_blocks, AfterFailedBlock}
use Rattle.docstore.specs.Writer.{Writing, num_docs, flushed, with_failures, AfterFailed}

-- The blocks that were read from a reader's file: at the places of its own blocks, and these themselves if the file is
-- honest.
pub record AreRead (reader : Reading) (bs : List StoreBlock) : Type 0 where
  pub places : checkpoints_of bs ≡ reader.checkpoints
  pub honest : IsTrue reader.file.honest → bs ≡ store_of reader

-- a checkpoint this many documents and bytes further on
abbrev pub shifted : ℕ → ℕ → Checkpoint → Checkpoint
shifted docs bytes c = checkpoint (c.doc_range.start + docs) (c.doc_range.end + docs) (c.byte_range.start + bytes)
    (c.byte_range.end + bytes)

-- the checkpoints of blocks of the same sizes, one after the other from this id and this byte on
abbrev pub laid_from : ℕ → ℕ → List Checkpoint → List Checkpoint
laid_from id byte [] = []
laid_from id byte (c ∷ cs) = checkpoint id (id + doc_count c) byte (byte + byte_len c)
    ∷ laid_from (id + doc_count c) (byte + byte_len c) cs

-- The checkpoints follow one another from some document and some byte on, none is empty, and they have this many bytes.
pub record CutAll (cs : List Checkpoint) (bytes : ℕ) : Type 0 where
  pub doc : ℕ
  pub byte : ℕ
  pub in_line : IsInLineFrom doc byte cs
  pub filled : AllByRecursion IsFilled cs
  pub end : bytes_end byte cs ≡ byte + bytes

-- What a refused stacking of blocks leaves: where the reading is refused, the writer as it was.
abbrev pub AfterStacking : Reading → Reading → BlockOutput → BlockOutput → StoreError → Type 0
AfterStacking reader read old new Memory = (old.failure ≡ None) × (new ≡ old)
    × (read.file.failures ≡ reader.file.failures)
AfterStacking reader read old new Read = (old.failure ≡ None) × (new ≡ old)
    × HasRisen reader.file.failures read.file.failures
AfterStacking reader read old new (Failed cause) = AfterFailedBlock old.failure cause old new
AfterStacking reader read old new _ = ⊥

-- the pending documents as a block, and these blocks after it
abbrev pub with_store : Writing → List StoreBlock → Writing
with_store w bs = record w { pending = []; output = with_blocks (flushed w).output bs }

-- The writer works, and the store's documents may be in an older form.
pub record IsOld (w : Writing) (reader : Reading) : Type 0 where
  pub works : w.output.failure ≡ None
  pub version : reader.version ≡ V1

-- The writer works, the store can be stacked, and the documents of both can't be numbered.
pub record HasTooMany (w : Writing) (reader : Reading) : Type 0 where
  pub works : w.output.failure ≡ None
  pub version : reader.version ≢ V1
  pub many : 2 ^ 32 ≤ num_docs w + docs_of reader

-- The writer works, a store in this form can be stacked, and the documents of both can be numbered.
pub record HasRoomFor (w : Writing) (version : DocStoreVersion) (docs : ℕ) : Type 0 where
  pub works : w.output.failure ≡ None
  pub form : version ≢ V1
  pub few : num_docs w + docs < 2 ^ 32

-- The same, but they can't be numbered.
pub record HasNoIdsFor (w : Writing) (version : DocStoreVersion) (docs : ℕ) : Type 0 where
  pub works : w.output.failure ≡ None
  pub form : version ≢ V1
  pub many : 2 ^ 32 ≤ num_docs w + docs

-- the first reason why such a store can't be stacked
abbrev pub HasNoRoomFor : Writing → DocStoreVersion → ℕ → StoreError → Type 0
HasNoRoomFor w version docs (Failed cause) = w.output.failure ≡ Some cause
HasNoRoomFor w version docs OldVersion = (w.output.failure ≡ None) × (version ≡ V1)
HasNoRoomFor w version docs TooManyDocs = HasNoIdsFor w version docs
HasNoRoomFor w version docs _ = ⊥

-- the pending documents were written as a block, if there were any
abbrev pub IsFlushed : Writing → Writing → Type 0
IsFlushed old new = (old.output.failure ≡ None) × (new ≡ with_failures new.output.failures (flushed old))

-- What a refused stacking leaves. Only where its data is refused is the writer changed without having failed.
abbrev pub AfterStack : Reading → Reading → Writing → Writing → StoreError → Type 0
AfterStack reader read old new OldVersion = (new ≡ old) × (read ≡ reader)
AfterStack reader read old new TooManyDocs = (new ≡ old) × (read ≡ reader)
AfterStack reader read old new Memory = IsFlushed old new × IsReadWhole reader read
    × (read.file.failures ≡ reader.file.failures)
AfterStack reader read old new Read = IsFlushed old new × IsReadWhole reader read
    × HasRisen reader.file.failures read.file.failures
AfterStack reader read old new (Failed cause) = AfterFailed old.output.failure cause old new
AfterStack reader read old new _ = ⊥
