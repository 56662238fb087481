-- What the formats promise.
use Rattle.std.specs.Prelude.{◌≡◌, ℕ, ◌<◌, ◌≤◌, ◌^◌, List, ◌++◌, length}
use Rattle.std.specs.List.{AllByRecursion}
use Rattle.layered_index.specs.declared.checkpoint.Checkpoint.{Checkpoint}
use Rattle.layered_index.specs.Checkpoint.{IsInLine, checkpoint_block}
use Rattle.layered_index.specs.Layers.{layer_text, layer_above, digit_count, layers, index_part}

-- No checkpoint block begins another, and each list in line has its own.
abbrev pub CheckpointBlocksAreApart : Type 0
CheckpointBlocksAreApart = (cs ds : List Checkpoint) (r s : List ℕ) → IsInLine cs → IsInLine ds
    → checkpoint_block cs ++ r ≡ checkpoint_block ds ++ s → (cs ≡ ds) × (r ≡ s)

-- Each list in line has its own index, at each period.
abbrev pub IndexPartsAreApart : Type 0
IndexPartsAreApart = (period : ℕ) (cs ds : List Checkpoint) → 2 ≤ period → IsInLine cs → IsInLine ds
    → index_part period cs ≡ index_part period ds → cs ≡ ds

-- The layer above a list in line is in line, if its text can be addressed.
abbrev pub LayerAboveIsInLine : Type 0
LayerAboveIsInLine = (period : ℕ) (cs : List Checkpoint) → 1 ≤ period → period ≤ 64 → IsInLine cs
    → length (layer_text period cs) < 2 ^ 64 → IsInLine (layer_above period cs)

-- All layers of a list in line are in line, if the list has fewer than 2^58 checkpoints; and there are as many as its
-- length has digits.
abbrev pub LayersAreInLine : Type 0
LayersAreInLine = (period : ℕ) (cs : List Checkpoint) → 2 ≤ period → period ≤ 64 → IsInLine cs → length cs < 2 ^ 58
    → AllByRecursion IsInLine (layers period cs) × (length (layers period cs) ≡ digit_count period (length cs))
