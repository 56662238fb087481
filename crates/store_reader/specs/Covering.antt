-- The index of a store.
use Rattle.std.specs.Prelude.{◌≡◌, ℕ, List}
use Rattle.layered_index.specs.declared.checkpoint.Checkpoint.{Checkpoint}
use Rattle.layered_index.specs.Checkpoint.{Covers}
use Rattle.layered_index.specs.Layers.{index_part}

-- These bytes are the index part of this list, which covers this many bytes.
pub record IsIndexOf (period : ℕ) (bytes : List ℕ) (covered : ℕ) (cs : List Checkpoint) : Type 0 where
  pub covers : Covers cs covered
  pub spells : bytes ≡ index_part period cs

-- They are that of some list.
abbrev pub HasIndexOf : ℕ → List ℕ → ℕ → Type 0
HasIndexOf period bytes covered = (cs : List Checkpoint) × IsIndexOf period bytes covered cs
