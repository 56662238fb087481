-- Numbers in an output, one on each line.
use Rattle.std.specs.Prelude.{◌≡◌, ℕ, zero, suc, ◌+◌, Bool, false, IsTrue, List, [], ◌∷◌, ◌++◌, Option, decimal}
use Rattle.std.specs.Io.KnownBytes.{Appends}

-- a count of numbers, from one on, each on a line
abbrev pub number_lines : ℕ → ℕ → List ℕ
number_lines from zero = []
number_lines from (suc count) = decimal from ++ 10 ∷ number_lines (from + 1) count

-- an output: its bytes, where they are known, and whether a print has failed
pub record Printed : Type 0 where
  pub bytes : Option (List ℕ)
  pub failed : Bool

-- An output has the first of some bytes more, and these are left.
pub record AppendsUpTo (old new : Option (List ℕ)) (bytes rest : List ℕ) : Type 0 where
  pub written : List ℕ
  pub are : bytes ≡ written ++ rest
  pub grown : Appends old new written

-- An output has the first of some bytes more.
abbrev pub AppendsFirst : Option (List ℕ) → Option (List ℕ) → List ℕ → Type 0
AppendsFirst old new bytes = (rest : List ℕ) × AppendsUpTo old new bytes rest

-- An output has lines more, or the first of their bytes where a print failed. After that nothing is printed.
pub record Prints (old new : Printed) (lines : List ℕ) : Type 0 where
  pub first : AppendsFirst old.bytes new.bytes lines
  pub whole : new.failed ≡ false → (old.failed ≡ false) × Appends old.bytes new.bytes lines
  pub stopped : IsTrue old.failed → new ≡ old
