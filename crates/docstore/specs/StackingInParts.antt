-- Putting a store after what a writer has, a part of its data at a time.
use Rattle.std.specs.Prelude.{◌≡◌, ℕ, zero, suc, ◌+◌, ◌<◌, ◌≤◌}
use Rattle.std.specs.Prelude.{IsTrue, List, length, take, drop, None}
use Rattle.store_base.specs.Counts.{HasRisen, raised}
use Rattle.store_base.specs.declared.error.StoreError.{StoreError}
use Rattle.store_base.specs.declared.error.StoreError.TheVariants.{Read, Memory, OldVersion, TooManyDocs, Failed}
use Rattle.store_format.specs.StoreFile.{StoreBlock, checkpoints_of}
use Rattle.store_reader.specs.Parts.{number_of_parts, byte_at}
use Rattle.store_reader.specs.Reading.{Reading, store_of, with_file}
use Rattle.docstore.specs.BlockOutput.{BlockOutput, with_blocks, with_risen, AfterFailedBlock}
use Rattle.docstore.specs.Stacking.{with_store}
use Rattle.docstore.specs.Writer.{Writing, with_failures, AfterFailed}

-- ---- the file

-- what a count is after this many more; none leave it
abbrev pub after_more : ℕ → ℕ → ℕ
after_more count zero = count
after_more count (suc more) = raised count (suc more)

-- What this many reads of its data, of this many bytes in all, leave of a reader: all but the counts of its file.
pub record IsReadTimes (times bytes : ℕ) (old new : Reading) : Type 0 where
  pub content : new.file.content ≡ old.file.content
  pub honest : new.file.honest ≡ old.file.honest
  pub reads : new.file.reads ≡ after_more old.file.reads times
  pub asked : new.file.asked ≡ after_more old.file.asked bytes
  pub failures : old.file.failures ≤ new.file.failures
  pub others : new ≡ with_file old new.file

-- Its data was read at most so often, and no more bytes than it has in all.
pub record IsReadAtMost (most : ℕ) (old new : Reading) : Type 0 where
  pub times : ℕ
  pub bytes : ℕ
  pub few : times ≤ most
  pub within : bytes ≤ length old.file.content
  pub read : IsReadTimes times bytes old new

-- Its whole data was read, by this many reads.
abbrev pub IsReadInPieces : ℕ → Reading → Reading → Type 0
IsReadInPieces times old new = IsReadTimes times (length old.file.content) old new

-- ---- what a refused stacking leaves

-- The first blocks that were read from a reader's file, not all: at the places of its own blocks, and these themselves
-- if the file is honest.
pub record AreFirstRead (reader : Reading) (bs : List StoreBlock) : Type 0 where
  pub count : ℕ
  pub some_left : count < length reader.checkpoints
  pub places : checkpoints_of bs ≡ take count reader.checkpoints
  pub honest : IsTrue reader.file.honest → bs ≡ take count (store_of reader)

-- The first blocks of a store, not all, are after the finished ones.
pub record BeginsStacking (reader : Reading) (old new : BlockOutput) : Type 0 where
  pub works : old.failure ≡ None
  pub blocks : List StoreBlock
  pub came : AreFirstRead reader blocks
  pub after : new ≡ with_risen new.failures (with_blocks old blocks)

-- What a refused stacking of blocks leaves.
abbrev pub AfterStackingInParts : Reading → Reading → BlockOutput → BlockOutput → StoreError → Type 0
AfterStackingInParts reader read old new Memory = BeginsStacking reader old new
    × (read.file.failures ≡ reader.file.failures)
AfterStackingInParts reader read old new Read = BeginsStacking reader old new
    × HasRisen reader.file.failures read.file.failures
AfterStackingInParts reader read old new (Failed cause) = AfterFailedBlock old.failure cause old new
AfterStackingInParts reader read old new _ = ⊥

-- The pending documents are a finished block, if there were any, and the first blocks of a store, not all, are after
-- it.
pub record BeginsStack (reader : Reading) (old new : Writing) : Type 0 where
  pub works : old.output.failure ≡ None
  pub blocks : List StoreBlock
  pub came : AreFirstRead reader blocks
  pub after : new ≡ with_failures new.output.failures (with_store old blocks)

-- What a refused stacking leaves. Only where a part is refused is the writer changed without having failed.
abbrev pub AfterStackInParts : Reading → Reading → Writing → Writing → StoreError → Type 0
AfterStackInParts reader read old new OldVersion = (new ≡ old) × (read ≡ reader)
AfterStackInParts reader read old new TooManyDocs = (new ≡ old) × (read ≡ reader)
AfterStackInParts reader read old new Memory = BeginsStack reader old new
    × (read.file.failures ≡ reader.file.failures)
AfterStackInParts reader read old new Read = BeginsStack reader old new
    × HasRisen reader.file.failures read.file.failures
AfterStackInParts reader read old new (Failed cause) = AfterFailed old.output.failure cause old new
AfterStackInParts reader read old new _ = ⊥

-- ---- how far a stacking has come

-- This many of the first blocks that were read from a reader's file are after the finished ones.
pub record StacksFirst (reader : Reading) (count : ℕ) (old new : BlockOutput) : Type 0 where
  pub blocks : List StoreBlock
  pub places : checkpoints_of blocks ≡ take count reader.checkpoints
  pub honest : IsTrue reader.file.honest → blocks ≡ take count (store_of reader)
  pub after : new ≡ with_risen new.failures (with_blocks old blocks)

-- The data up to the block with this number was read, by one read for each part.
pub record IsReadUpTo (size count : ℕ) (old new : Reading) : Type 0 where
  pub times : ℕ
  pub read : IsReadTimes times (byte_at count old.checkpoints) old new
  pub parts : times + number_of_parts size (drop count old.checkpoints) ≡ number_of_parts size old.checkpoints
