-- What is found in a block.
use Rattle.std.specs.Prelude.{◌≢◌, ◌<◌, ℕ, List}
use Rattle.store_format.specs.Block.{slot, damaged}

-- None of the first this many documents of a block is damaged.
abbrev pub AreWhole : List ℕ → ℕ → Type 0
AreWhole block end = (k : ℕ) → k < end → slot block k ≢ damaged
