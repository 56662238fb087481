-- How a page spells the bytes of a document.
use Rattle.std.specs.Prelude.{ℕ, ◌+◌, ◌/◌, ◌%◌, nat_lt, if◌then◌else◌, List, [], ◌∷◌}
use Rattle.std.specs.List.{flat_map}

-- the sign of a number below 16: 0 to 9, and then a to f
abbrev pub digit : ℕ → ℕ
digit n = if nat_lt n 10 then 48 + n else 87 + n

-- two digits for each byte
abbrev pub hex : List ℕ → List ℕ
hex bytes = flat_map (λ b. digit (b / 16) ∷ digit (b % 16) ∷ []) bytes
