-- What iterations over a store in a slice of bytes give, as a whole.
use Rattle.std.specs.Prelude.{◌≡◌, ℕ, ◌+◌, ◌≤◌, List, [], ◌∷◌, map, drop, Some, None, Result}
use Rattle.std.specs.Borrow.{Bor}
use Rattle.std.specs.List.{enumerate_from}
use Rattle.store_base.specs.declared.error.StoreError.{StoreError}
use Rattle.store_format.specs.Slots.{slots}
use Rattle.store_reader.specs.CallAnswers.{exact_result}
use Rattle.store_reader.specs.Opening.{IsSomeStore}
use Rattle.store_reader.specs.StoreSlices.{count_of_store, GivesStored}
use Rattle.store_reader.specs.Finding.{given}

-- These items are what an iteration gives from this document on, and then it ends.
abbrev pub AreGivenStored : (bytes : List ℕ) → IsSomeStore bytes → ℕ → List (Result (Bor (List ℕ)) StoreError) → Type 0
AreGivenStored bytes s next [] = GivesStored bytes s next None next
AreGivenStored bytes s next (item ∷ items) = GivesStored bytes s next (Some item) (next + 1)
    × AreGivenStored bytes s (next + 1) items

-- An iteration gives what each slot answers, from its first document on, in order.
abbrev pub SlicesGiveEachSlot : Type 0
SlicesGiveEachSlot = (bytes : List ℕ) (s : IsSomeStore bytes) (first : ℕ)
    (items : List (Result (Bor (List ℕ)) StoreError)) → first ≤ count_of_store bytes s
    → AreGivenStored bytes s first items → map given items
    ≡ map (λ x. exact_result x.0 (Some x.1)) (enumerate_from first (drop first (slots s.blocks)))
