-- Records by where they lie.
use Rattle.std.specs.Prelude.{◌≡◌, ℕ, ◌+◌, ◌≤◌, List, ◌++◌, length, map, slice_range}
use Rattle.log_tail.specs.Tail.{records_in}
use Rattle.log_tail.specs.declared.batches.Place.{Place}

-- the bytes at a place
abbrev pub content : List ℕ → Place → List ℕ
content file place = slice_range file place.start place.end

-- the bytes at each
abbrev pub contents : List ℕ → List Place → List (List ℕ)
contents file places = map (content file) places

-- the place ends by this one
abbrev pub EndsBy : ℕ → Place → Type 0
EndsBy end place = (place.start ≤ place.end) × (place.end ≤ end)

-- The new places are the old ones and those of a body's records, in each file that has the body at this place.
abbrev pub AddsRecords : List ℕ → ℕ → List Place → List Place → Type 0
AddsRecords body base old new = (file : List ℕ) → slice_range file base (base + length body) ≡ body → contents file new ≡ contents file old ++ records_in body
