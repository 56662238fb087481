-- What inputs hold that are read in order.
use Rattle.std.specs.Prelude.{◌≡◌, ℕ, List, [], ◌∷◌, Option, None, Some, codes, nat_eq, if◌then◌else◌, option_and_then}
use Rattle.std.specs.Option.{option_map}
use lib.Pointwise.{pointwise}

-- the bytes of the file of each path, and what is left of the standard input
pub record Readable : Type 0 where
  pub file_at : List ℕ → Option (List ℕ)
  pub standard : List ℕ

-- the same, where nothing is left of the standard input
abbrev pub with_spent_standard : Readable → Readable
with_spent_standard r = record r { standard = [] }

-- the bytes of the inputs of these paths, one after the other, where each is there; `-` names the standard input
abbrev pub bytes_of : Readable → List (List ℕ) → Option (List (List ℕ))
bytes_of r [] = Some []
bytes_of r (path ∷ paths) = if pointwise nat_eq path (codes "-")
    then option_map (λ others. r.standard ∷ others) (bytes_of (with_spent_standard r) paths)
    else option_and_then (λ bytes. option_map (λ others. bytes ∷ others) (bytes_of r paths)) (r.file_at path)

-- the same, where it is known what inputs hold
abbrev pub inputs_of : Option Readable → List (List ℕ) → Option (List (List ℕ))
inputs_of known paths = option_and_then (λ r. bytes_of r paths) known

-- A reader has the bytes of the file of a path, where they are known.
abbrev pub IsFileAt : Option Readable → List ℕ → Option (List ℕ) → Type 0
IsFileAt None path left = Unit {0}
IsFileAt (Some r) path left = (bytes : List ℕ) × (r.file_at path ≡ Some bytes) × (left ≡ Some bytes)

-- A reader has what is left of the standard input, where that is known.
abbrev pub IsStandard : Option Readable → Option (List ℕ) → Type 0
IsStandard None left = Unit {0}
IsStandard (Some r) left = left ≡ Some r.standard
