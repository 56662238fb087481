-- Checkpoints in line, the bytes of a block of them, the linear answer of a seek, and when they cover the data of a
-- store.
use Rattle.std.specs.Prelude.{◌≡◌, ℕ, ◌-◌, ◌<◌, ◌≤◌, ◌^◌, nat_lt, List, [], ◌∷◌, ◌++◌, length, Option, Some, None}
use Rattle.std.specs.declared.ops.Range.{Range}
use Rattle.std.specs.List.{find, flat_map, AllByRecursion}
use Rattle.store_base.specs.VInt.{number}
use Rattle.layered_index.specs.declared.checkpoint.Checkpoint.{Checkpoint}

-- these documents and these bytes, each from a start to an end
abbrev pub checkpoint : ℕ → ℕ → ℕ → ℕ → Checkpoint
checkpoint doc doc_end byte byte_end = record {
  doc_range = record { start = doc; end = doc_end };
  byte_range =
      record { start = byte; end = byte_end };
}

-- how many documents it has
abbrev pub doc_count : Checkpoint → ℕ
doc_count c = c.doc_range.end - c.doc_range.start

-- how many bytes it has
abbrev pub byte_len : Checkpoint → ℕ
byte_len c = c.byte_range.end - c.byte_range.start

-- It begins where the other ends.
pub record Follows (c d : Checkpoint) : Type 0 where
  pub docs : c.doc_range.start ≡ d.doc_range.end
  pub bytes : c.byte_range.start ≡ d.byte_range.end

-- not reversed, and within the limits of a store
pub record IsWithinLimits (c : Checkpoint) : Type 0 where
  pub doc_order : c.doc_range.start ≤ c.doc_range.end
  pub doc_end : c.doc_range.end < 2 ^ 32
  pub byte_order : c.byte_range.start ≤ c.byte_range.end
  pub byte_len : byte_len c < 2 ^ 32
  pub byte_end : c.byte_range.end < 2 ^ 64

-- from this document and this byte on, each begins where the one before it ends
abbrev pub IsInLineFrom : ℕ → ℕ → List Checkpoint → Type 0
IsInLineFrom doc byte [] = Unit {0}
IsInLineFrom doc byte (c ∷ cs) = (c.doc_range.start ≡ doc) × (c.byte_range.start ≡ byte) × IsWithinLimits c
    × IsInLineFrom c.doc_range.end c.byte_range.end cs

-- where the last of these ends, its documents and its bytes; the number given where there is none
abbrev pub docs_end : ℕ → List Checkpoint → ℕ
docs_end doc [] = doc
docs_end doc (c ∷ cs) = docs_end c.doc_range.end cs

abbrev pub bytes_end : ℕ → List Checkpoint → ℕ
bytes_end byte [] = byte
bytes_end byte (c ∷ cs) = bytes_end c.byte_range.end cs

-- from the first's start to the last's end, if there are any
abbrev pub doc_interval : List Checkpoint → Option (Range ℕ)
doc_interval [] = None
doc_interval (c ∷ cs) = Some (record { start = c.doc_range.start; end = docs_end 0 (c ∷ cs) })

-- In line from the first id and the first byte on up to these ends. What begins there can be put after it.
pub record EndsAt (doc byte : ℕ) (cs : List Checkpoint) : Type 0 where
  pub in_line : IsInLineFrom 0 0 cs
  pub docs : docs_end 0 cs ≡ doc
  pub bytes : bytes_end 0 cs ≡ byte

-- each follows the last, and none is reversed or past a limit
abbrev pub IsInLine : List Checkpoint → Type 0
IsInLine [] = Unit {0}
IsInLine (c ∷ cs) = IsInLineFrom c.doc_range.start c.byte_range.start (c ∷ cs)

-- a checkpoint after another: what it has of both kinds
abbrev pub step : Checkpoint → List ℕ
step c = number (doc_count c) ++ number (byte_len c)

-- where the first begins, if there is one
abbrev pub starts : List Checkpoint → List ℕ
starts [] = []
starts (c ∷ cs) = number c.doc_range.start ++ number c.byte_range.start

-- how many there are, where the first begins, and what each has
unfoldable pub checkpoint_block : List Checkpoint → List ℕ
checkpoint_block cs = number (length cs) ++ starts cs ++ flat_map step cs

-- the first checkpoint whose documents end past the target
abbrev pub first_past : List Checkpoint → ℕ → Option Checkpoint
first_past cs target = find (λ c. nat_lt target c.doc_range.end) cs

-- has a document and a byte
abbrev pub IsFilled : Checkpoint → Type 0
IsFilled c = (0 < doc_count c) × (0 < byte_len c)

-- In line from the first id and the first byte on up to this byte, and none is empty.
pub record Covers (cs : List Checkpoint) (bytes : ℕ) : Type 0 where
  pub in_line : IsInLineFrom 0 0 cs
  pub filled : AllByRecursion IsFilled cs
  pub end : bytes_end 0 cs ≡ bytes
