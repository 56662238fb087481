-- What a reader of a store is seen as.
use Rattle.std.specs.Prelude.{◌≡◌, ◌⊎◌, ℕ, ◌≤◌, IsTrue, List, length, slice_range}
use Rattle.std.specs.List.{AllByRecursion}
use Rattle.store_base.specs.Files.{Part, ReadsOnce}
use Rattle.store_format.specs.declared.kinds.Decompressor.{Decompressor}
use Rattle.store_format.specs.declared.version.DocStoreVersion.{DocStoreVersion}
use Rattle.layered_index.specs.declared.checkpoint.Checkpoint.{Checkpoint}
use Rattle.layered_index.specs.Checkpoint.{docs_end, Covers}
use Rattle.store_reader.specs.CachedBlocks.{CachedBlocks}
use Rattle.store_format.specs.StoreFile.{StoreBlock, AreBlocks, data_of, checkpoints_of, blocks_at}

-- the data, the checkpoints of its blocks and the period of their index, how documents are spelled, how blocks are
-- unpacked, and
-- the blocks that are kept
pub record Reading : Type 0 where
  pub file : Part
  pub checkpoints : List Checkpoint
  pub period : ℕ
  pub version : DocStoreVersion
  pub decompressor : Decompressor
  pub cache : CachedBlocks

-- how many documents there are
abbrev pub num_docs : Reading → ℕ
num_docs r = docs_end 0 r.checkpoints

-- the same reader after its data was read and its cache was used
abbrev pub with_parts : Reading → Part → CachedBlocks → Reading
with_parts r file cache = record {
  file = file;
  checkpoints = r.checkpoints;
  period = r.period;
  version =
      r.version;
  decompressor = r.decompressor;
  cache = cache;
}

-- the same reader after its data was read
abbrev pub with_file : Reading → Part → Reading
with_file r file = with_parts r file r.cache

-- What one read of this many bytes of its data leaves of a reader: all but the counts of its file.
pub record IsReadOnce (len : ℕ) (old new : Reading) : Type 0 where
  pub once : ReadsOnce len old.file new.file
  pub others : new ≡ with_file old new.file

-- its whole data was read once
abbrev pub IsReadWhole : Reading → Reading → Type 0
IsReadWhole old new = IsReadOnce (length old.file.content) old new

-- its whole data was read once, or nothing at all
abbrev pub IsReadAtMostOnce : Reading → Reading → Type 0
IsReadAtMostOnce old new = (new ≡ old) ⊎ IsReadWhole old new

-- the bytes that data has for a block
abbrev pub part_of : List ℕ → Checkpoint → List ℕ
part_of content c = slice_range content c.byte_range.start c.byte_range.end

-- A kept block has the bytes of the checkpoint that begins at its key.
abbrev pub HasPart : List ℕ → List Checkpoint → ℕ × List ℕ → Type 0
HasPart content cs entry = AllByRecursion (λ c. c.byte_range.start ≡ entry.0 → entry.1 ≡ part_of content c) cs

-- the store of a reader
abbrev pub store_of : Reading → List StoreBlock
store_of r = blocks_at r.checkpoints r.file.content

-- what always holds: the checkpoints cover the data; where reads give what is there, so do the kept blocks
pub record IsReader (file : Part) (cs : List Checkpoint) (period : ℕ) (cache : CachedBlocks) : Type 0 where
  pub covers : Covers cs (length file.content)
  pub two : 2 ≤ period
  pub few : period ≤ 64
  pub holds : IsTrue file.honest → AllByRecursion (HasPart file.content cs) cache.kept

-- the store of a reader is one: its checkpoints are the reader's, and its data is the data
pub record IsSeen (r : Reading) : Type 0 where
  pub blocks : AreBlocks (store_of r)
  pub checkpoints_are : checkpoints_of (store_of r) ≡ r.checkpoints
  pub data_is : data_of (store_of r) ≡ r.file.content

-- The same store, in the same form and under the same capacity. What was read and what is kept may differ.
pub record IsSameStore (old new : Reading) : Type 0 where
  pub content : new.file.content ≡ old.file.content
  pub honest : new.file.honest ≡ old.file.honest
  pub failures : old.file.failures ≤ new.file.failures
  pub checkpoints : new.checkpoints ≡ old.checkpoints
  pub period : new.period ≡ old.period
  pub version : new.version ≡ old.version
  pub decompressor : new.decompressor ≡ old.decompressor
  pub capacity : new.cache.capacity ≡ old.cache.capacity
