-- Where the answer of a seek lies, and how many looks a guess may take.
use Rattle.std.specs.Prelude.{◌≡◌, ℕ, ◌/◌, ◌<◌, ◌≤◌, List, length, Option, Some, None, slice_get}
use Rattle.layered_index.specs.declared.checkpoint.Checkpoint.{Checkpoint}
use Rattle.layered_index.specs.Layers.{digit_count}

-- none of the first this many ends past the target
abbrev pub NoneBelow : List Checkpoint → ℕ → ℕ → Type 0
NoneBelow cs target low = (i : ℕ) (c : Checkpoint) → i < low → slice_get cs i ≡ Some c → c.doc_range.end ≤ target

-- the one with this index does, if there is one
abbrev pub EndsPast : ℕ → Option Checkpoint → Type 0
EndsPast target None = Unit {0}
EndsPast target (Some c) = target < c.doc_range.end

-- The first that ends past the target is none below low, and high at most.
pub record LiesBetween (cs : List Checkpoint) (target low high : ℕ) : Type 0 where
  pub order : low ≤ high
  pub within : high ≤ length cs
  pub before : NoneBelow cs target low
  pub past : EndsPast target (slice_get cs high)

-- How many looks may be made near a guess among this many, before what is left is halved: one for each two of the binary
-- digits, but the first two.
abbrev pub looks_to_spare : ℕ → ℕ
looks_to_spare n = digit_count 4 (n / 8)
