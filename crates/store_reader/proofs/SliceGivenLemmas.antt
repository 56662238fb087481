-- What iterations over a store in a slice of bytes give, as a whole.
use Rattle.std.proofs.Common.{◌≡◌, ℕ, zero, suc, ◌+◌, ◌≤◌, List, [], ◌∷◌, drop, length, map, Some, refl, ap, ◌∙◌, subst, arith}
use Rattle.std.specs.Borrow.{Bor}
use Rattle.std.specs.List.{enumerate_from}
use Rattle.std.specs.Prelude.{Result, slice_get}
use Rattle.store_base.specs.declared.error.StoreError.{StoreError}
use Rattle.store_format.specs.Block.{Slot}
use Rattle.store_format.specs.Slots.{slots}
use Rattle.store_reader.specs.CallAnswers.{exact_result}
use Rattle.store_reader.specs.Finding.{given}
use Rattle.store_reader.specs.Opening.{IsSomeStore}
use Rattle.store_reader.specs.SliceLaws.{AreGivenStored, SlicesGiveEachSlot}

-- these are the slots from this id on
record IsRest (all : List Slot) (id : ℕ) (xs : List Slot) : Type 0 where
  size : id + length xs ≡ length all
  each : (k : ℕ) → slice_get all (id + k) ≡ slice_get xs k

all_slots : (all : List Slot) → IsRest all 0 all
all_slots all = record { size = omega arith; each = λ k. let whole : 0 + k ≡ k = omega arith in ap (slice_get all) whole }

rest_of : (all : List Slot) (id : ℕ) (x : Slot) (xs : List Slot) → IsRest all id (x ∷ xs) → IsRest all (id + 1) xs
rest_of all id x xs r =
    let size = r.size in
    record { size = omega arith; each = λ k. let place : (id + 1) + k ≡ id + suc k = omega arith in ap (slice_get all) place ∙ r.each (suc k) }

first_of_rest : (all : List Slot) (id : ℕ) (x : Slot) (xs : List Slot) → IsRest all id (x ∷ xs) → slice_get all id ≡ Some x
first_of_rest all id x xs r = let place : id ≡ id + 0 = omega arith in ap (slice_get all) place ∙ r.each 0

-- the slots after these
rest_after : (all : List Slot) (id k : ℕ) (xs : List Slot) → IsRest all id xs → k ≤ length xs → IsRest all (id + k) (drop k xs)
rest_after all id zero xs r le = let same : id ≡ id + 0 = omega arith in subst (λ (n : ℕ). IsRest all n xs) same r
rest_after all id (suc k) [] r le = absurd (omega arith)
rest_after all id (suc k) (x ∷ xs) r le =
    let same : (id + 1) + k ≡ id + suc k = omega arith in
    subst (λ (n : ℕ). IsRest all n (drop k xs)) same (rest_after all (id + 1) k xs (rest_of all id x xs r) (omega arith))

each_from : (bytes : List ℕ) (s : IsSomeStore bytes) (id : ℕ) (xs : List Slot) (items : List (Result (Bor (List ℕ)) StoreError)) → IsRest (slots s.blocks) id xs
    → AreGivenStored bytes s id items → map given items ≡ map (λ x. exact_result x.0 (Some x.1)) (enumerate_from id xs)
each_from bytes s id [] [] r g = refl
each_from bytes s id [] (item ∷ items) r g = absurd (let size = r.size in let below = g.0.0 in omega arith)
each_from bytes s id (x ∷ xs) [] r g = absurd (let size = r.size in let end = g.0 in omega arith)
each_from bytes s id (x ∷ xs) (item ∷ items) r g =
    let first = g.0.1 ∙ ap (exact_result id) (first_of_rest (slots s.blocks) id x xs r) in
    let others = each_from bytes s (id + 1) xs items (rest_of (slots s.blocks) id x xs r) g.1 in
    λ i. first i ∷ others i

pub slices_give_each_slot : SlicesGiveEachSlot
slices_give_each_slot bytes s first items le g =
    let all = slots s.blocks in
    let none : 0 + first ≡ first = omega arith in
    let rest : IsRest all first (drop first all) = subst (λ (n : ℕ). IsRest all n (drop first all)) none (rest_after all 0 first all (all_slots all) le) in
    each_from bytes s first (drop first all) items rest g
