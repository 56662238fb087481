-- The answers to a list of reading calls.
use Rattle.std.specs.Prelude.{ℕ, Bool, List, [], ◌∷◌, take, Option, Some, Result}
use Rattle.std.specs.List.{filter, enumerate_from}
use Rattle.store_base.specs.declared.error.StoreError.{StoreError}
use Rattle.store_reader.specs.GetAnswer.{AnswersTruly}
use Rattle.store_format.specs.Block.{Slot}
use Rattle.store_reader.specs.Iteration.{is_in}

-- the first slots whose id is in the set, each with its id
abbrev pub first_alive : ℕ → List Slot → Option (ℕ → Bool) → List (ℕ × Slot)
first_alive count all set = take count (filter (λ x. is_in set x.0) (enumerate_from 0 all))

-- Each item is the answer of one slot; failed reads and memory aside.
abbrev pub AreItems : List (ℕ × Slot) → List (Result (List ℕ) StoreError) → Type 0
AreItems [] [] = Unit {0}
AreItems (x ∷ xs) (item ∷ items) = AnswersTruly x.0 (Some x.1) item × AreItems xs items
AreItems _ _ = ⊥
