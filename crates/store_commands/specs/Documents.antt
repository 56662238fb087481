-- The documents that are given out of a store.
use Rattle.std.specs.Prelude.{◌≡◌, ℕ, Bool, not, List, [], ◌∷◌, map, Option, Some}
use Rattle.std.specs.List.{filter, enumerate_from}
use Rattle.store_format.specs.Block.{Slot, doc}
use Rattle.store_reader.specs.Iteration.{is_in}
use Rattle.store_commands.specs.declared.left_out.IdSpan.{IdSpan}
use Rattle.store_commands.specs.LeftOut.{is_among}

-- the set of the ids that none of the ranges has
abbrev pub kept_by : List IdSpan → Option (ℕ → Bool)
kept_by spans = Some (λ id. not (is_among spans id))

-- those of these slots that are in the set, each with its id; the first one has this id
abbrev pub numbered_from : ℕ → List Slot → Option (ℕ → Bool) → List (ℕ × Slot)
numbered_from first slots set = filter (λ x. is_in set x.0) (enumerate_from first slots)

-- the slots whose id is in the set, each with its id, in order
abbrev pub numbered : List Slot → Option (ℕ → Bool) → List (ℕ × Slot)
numbered all set = numbered_from 0 all set

-- A target took these documents, in order, each as it takes one of its number.
abbrev pub TakesEach : {T : Type 0} → (T → ℕ → List ℕ → T → Type 0) → T → List (ℕ × List ℕ) → T → Type 0
TakesEach takes old [] new = new ≡ old
TakesEach {T} takes old (document ∷ documents) new =
    (next : T) × takes old document.0 document.1 next × TakesEach takes next documents new

-- A target took exactly the documents of these slots, in order, under their numbers. So none of the slots is damaged.
pub record TakesSlots {T : Type 0} (takes : T → ℕ → List ℕ → T → Type 0) (some : List (ℕ × Slot)) (old new : T) : Type 0 where
  pub documents : List (ℕ × List ℕ)
  pub are : map (λ d. (d.0, doc d.1)) documents ≡ some
  pub taken : TakesEach takes old documents new
