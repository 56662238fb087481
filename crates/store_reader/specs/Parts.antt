-- Parts of a store's data: whole blocks that follow one another.
use Rattle.std.specs.Prelude.{◌≡◌, ◌⊎◌, ℕ, ◌+◌, ◌-◌, ◌<◌, ◌≤◌, nat_le, if◌then◌else◌, IsTrue}
use Rattle.std.specs.Prelude.{List, [], ◌∷◌, length, take, drop, slice_get, slice_range}
use Rattle.std.specs.Prelude.{Option, Some, IfSome, Result, IfOk}
use Rattle.store_base.specs.declared.error.StoreError.{StoreError}
use Rattle.layered_index.specs.declared.checkpoint.Checkpoint.{Checkpoint}
use Rattle.layered_index.specs.Checkpoint.{byte_len, bytes_end, first_past}
use Rattle.store_reader.specs.declared.data_part.DataPart.{DataPart}
use Rattle.store_reader.specs.declared.reader.parts.StorePart.{StorePart}
use Rattle.store_reader.specs.Reading.{Reading, IsReadOnce}

-- ---- parts

-- how many parts begin at these blocks, where the part before holds those that end up to this byte: the first block
-- past it begins a part, which holds those that end this many bytes after its beginning
abbrev pub parts_beyond : ℕ → ℕ → List Checkpoint → ℕ
parts_beyond size limit [] = 0
parts_beyond size limit (c ∷ cs) = if nat_le c.byte_range.end limit then parts_beyond size limit cs
    else 1 + parts_beyond size (c.byte_range.start + size) cs

-- how many parts of this many bytes these blocks are in; a longer block is a part of its own
abbrev pub number_of_parts : ℕ → List Checkpoint → ℕ
number_of_parts size cs = parts_beyond size 0 cs

-- ---- places in a store

-- the byte at which the block with this number begins; that at which the data ends, where there is none
abbrev pub byte_at : ℕ → List Checkpoint → ℕ
byte_at n cs = bytes_end 0 (take n cs)

-- A part that begins with the block of this number ends before that of the other: it has as many whole blocks as this many
-- bytes hold, and at least one.
pub record EndsPart (size : ℕ) (cs : List Checkpoint) (number end : ℕ) : Type 0 where
  pub some : number < end
  pub last : end ≤ length cs
  pub few_bytes : (end ≡ number + 1) ⊎ (byte_at end cs ≤ byte_at number cs + size)
  pub full : IfSome (slice_get cs end) (λ next. byte_at number cs + size < next.byte_range.end)
  pub parts : number_of_parts size (drop number cs) ≡ 1 + number_of_parts size (drop end cs)

-- ---- what a read brings

-- where a part lies, as a checkpoint says of a block
abbrev pub place_of : DataPart → Checkpoint
place_of part = record {
  doc_range = part.ids;
  byte_range = record { start = part.start; end = part.start + length part.bytes };
}

-- One read of a block, the one that has a document.
pub record IsBlockRead (old : Reading) (id : ℕ) (new : Reading) : Type 0 where
  pub block : Checkpoint
  pub seeks : first_past old.checkpoints id ≡ Some block
  pub once : IsReadOnce (byte_len block) old new

-- From the block with this number on, as many whole blocks as fit into this many bytes together with it; their bytes are
-- those of the file where it is honest.
pub record IsPartFrom (size : ℕ) (reader : Reading) (number : ℕ) (part : StorePart) : Type 0 where
  pub first : part.blocks.start ≡ number
  pub ends : EndsPart size reader.checkpoints number part.blocks.end
  pub len : byte_at number reader.checkpoints + length part.bytes ≡ byte_at part.blocks.end reader.checkpoints
  pub bytes : IsTrue reader.file.honest → part.bytes ≡ slice_range reader.file.content
      (byte_at number reader.checkpoints) (byte_at part.blocks.end reader.checkpoints)

-- One read of a part that begins with the block of this number, whether it came or not.
pub record IsPartRead (size : ℕ) (old : Reading) (number : ℕ) (result : Result (Option StorePart) StoreError)
    (new : Reading) : Type 0 where
  pub end : ℕ
  pub ends : EndsPart size old.checkpoints number end
  pub once : IsReadOnce (byte_at end old.checkpoints - byte_at number old.checkpoints) old new
  pub came : IfOk result (λ found. IfSome found (λ part. part.blocks.end ≡ end))
