-- A store that is written, and what its calls do.
use Rattle.std.specs.Prelude.{◌≡◌, ℕ, ◌+◌, ◌-◌, ◌<◌, ◌≤◌, ◌^◌, nat_lt, if◌then◌else◌, List, [], ◌∷◌, ◌++◌, length}
use Rattle.std.specs.Prelude.{Option, Some, None}
use Rattle.std.specs.List.{fold}
use Rattle.store_base.specs.declared.error.Cause.{Cause}
use Rattle.store_base.specs.declared.error.StoreError.{StoreError}
use Rattle.store_base.specs.declared.error.StoreError.TheVariants.{Memory, Unserializable, BlockTooLarge, TooManyDocs}
use Rattle.store_base.specs.declared.error.StoreError.TheVariants.{Failed}
use Rattle.store_format.specs.Block.{block}
use Rattle.store_format.specs.StoreFile.{StoreBlock, docs_in}
use Rattle.docstore.specs.Trace.{weight}
use Rattle.store_format.specs.StoreFile.{block_of}
use Rattle.docstore.specs.BlockOutput.{BlockOutput, with_blocks, IsSound, FailsFor}

-- The block size, the pending documents, and the finished blocks with the output.
pub record Writing : Type 0 where
  pub block_size : ℕ
  pub pending : List (List ℕ)
  pub output : BlockOutput

-- nothing taken yet
abbrev pub new_writing : ℕ → BlockOutput → Writing
new_writing size output = record { block_size = size; pending = []; output = output }

-- how many documents were taken
abbrev pub num_docs : Writing → ℕ
num_docs w = docs_in w.output.finished + length w.pending

-- the block of these documents, if there are any
abbrev pub blocks_of : List (List ℕ) → List StoreBlock
blocks_of [] = []
blocks_of (doc ∷ docs) = block_of (doc ∷ docs) ∷ []

-- the pending documents as a block
abbrev pub flushed : Writing → Writing
flushed w = record w { pending = []; output = with_blocks w.output (blocks_of w.pending) }

-- the same, if they exceed the block size
abbrev pub flushed_if_full : Writing → Writing
flushed_if_full w = if nat_lt w.block_size (weight w.pending) then flushed w else w

-- one more document
abbrev pub with_document : Writing → List ℕ → Writing
with_document w document = flushed_if_full (record w { pending = w.pending ++ document ∷ [] })

-- these documents more, one after the other
abbrev pub with_documents : Writing → List (List ℕ) → Writing
with_documents w documents = fold with_document w documents

-- the blocks of the file that a close writes
abbrev pub blocks_in : Writing → List StoreBlock
blocks_in w = (flushed w).output.finished

-- A writer goes on with its file: after the same bytes, and with the same period.
pub record IsSameFile (old new : Writing) : Type 0 where
  pub before : new.output.before ≡ old.output.before
  pub period : new.output.period ≡ old.output.period

-- up to how often the output failed, new is w
abbrev pub with_failures : ℕ → Writing → Writing
with_failures n w = record w { output = record w.output { failures = n } }

-- The documents can be numbered, the pending ones weigh no more than the block size, and the output holds the finished
-- blocks unless the writer has failed.
pub record IsStoreWriter (w : Writing) : Type 0 where
  pub ids : num_docs w < 2 ^ 32
  pub light : weight w.pending ≤ w.block_size
  pub output : IsSound w.output

-- The writer works, and there is an id for one more document.
pub record HasIdLeft (w : Writing) : Type 0 where
  pub works : w.output.failure ≡ None
  pub left : num_docs w < 2 ^ 32 - 1

-- The writer has failed, or there is none.
abbrev pub HasNoIdLeft : Writing → StoreError → Type 0
HasNoIdLeft w (Failed cause) = w.output.failure ≡ Some cause
HasNoIdLeft w TooManyDocs = (w.output.failure ≡ None) × (num_docs w ≡ 2 ^ 32 - 1)
HasNoIdLeft w _ = ⊥

-- The block of the pending documents with this one has no place in 32 bits.
pub record IsTooLarge (w : Writing) (document : List ℕ) : Type 0 where
  pub id : HasIdLeft w
  pub large : 2 ^ 32 ≤ length (block (w.pending ++ document ∷ []))

-- A failed writer returns its first cause again and stays as it was.
abbrev pub AfterFailed : Option Cause → Cause → Writing → Writing → Type 0
AfterFailed None cause old new = FailsFor cause old.output new.output
AfterFailed (Some first) cause old new = (cause ≡ first) × (new ≡ old)

-- what a refused document leaves
abbrev pub AfterRefusal : Writing → Writing → StoreError → Type 0
AfterRefusal old new Memory = (old.output.failure ≡ None) × (new ≡ old)
AfterRefusal old new TooManyDocs = new ≡ old
AfterRefusal old new BlockTooLarge = new ≡ old
AfterRefusal old new (Failed cause) = AfterFailed old.output.failure cause old new
AfterRefusal old new _ = ⊥

-- A document with these bytes was taken, and it has some.
abbrev pub StoresDocument : Option (List ℕ) → Writing → Writing → Type 0
StoresDocument (Some bytes) old new = new ≡ with_failures new.output.failures (with_document old bytes)
StoresDocument None old new = ⊥

-- The document has bytes, and its block no place.
abbrev pub HasTooMuch : Writing → Option (List ℕ) → Type 0
HasTooMuch w (Some bytes) = IsTooLarge w bytes
HasTooMuch w None = ⊥

-- what a refused document leaves that may have no bytes
abbrev pub AfterDocument : Writing → Writing → StoreError → Type 0
AfterDocument old new Unserializable = new ≡ old
AfterDocument old new e = AfterRefusal old new e
