-- What is printed of ranges of numbers, as words name them.
use Rattle.std.specs.Prelude.{◌≡◌, ℕ, List, [], ◌∷◌, map, Option, Some}
use Rattle.std.specs.Borrow.{Bor}
use Rattle.std.specs.Io.KnownBytes.{Appends}
use Rattle.std.specs.List.{concat}
use Rattle.store_commands.specs.NumberRanges.{range_named}

-- Each range has its bytes.
abbrev pub AreEach : (Option ℕ × Option ℕ → List ℕ → Type 0) → List (Option ℕ × Option ℕ) → List (List ℕ) → Type 0
AreEach Are [] [] = Unit {0}
AreEach Are (range ∷ ranges) (bytes ∷ others) = Are range bytes × AreEach Are ranges others
AreEach Are _ _ = ⊥

-- An output has exactly the bytes of each range more, one range after the other.
pub record PrintsEach (Are : Option ℕ × Option ℕ → List ℕ → Type 0) (ranges : List (Option ℕ × Option ℕ)) (old new : Option (List ℕ)) : Type 0 where
  pub parts : List (List ℕ)
  pub are : AreEach Are ranges parts
  pub printed : Appends old new (concat parts)

-- An output has exactly the bytes more of the range that each word names, one word after the other.
pub record PrintsNamed (Are : Option ℕ × Option ℕ → List ℕ → Type 0) (words : List (Bor (List ℕ))) (old new : Option (List ℕ)) : Type 0 where
  pub ranges : List (Option ℕ × Option ℕ)
  pub named : map (λ word. range_named word.now) words ≡ map Some ranges
  pub printed : PrintsEach Are ranges old new
