-- What came of honest files, and which inputs can be taken.
use Rattle.std.proofs.Common.{◌≡◌, ℕ, suc, ◌+◌, ◌<◌, ◌≤◌, inl, inr, Bool, true, false, cond, List, [], ◌∷◌, ◌++◌, length, get_or, map, Option, Some, None}
use Rattle.std.proofs.Common.{refl, sym, ◌∙◌, ap, subst, arith}
use Rattle.std.proofs.lemmas.Bool.{cases_lt, lt-ltb}
use Rattle.std.proofs.lemmas.List.Sums.{fails_before_first}
use Rattle.std.specs.List.{AllByRecursion, filter, enumerate_from, flat_map, list_all, position, position_or_len, range_with_len}
use Rattle.store_base.proofs.ListLemmas.{both}
use Rattle.store_format.specs.Block.{Slot}
use Rattle.store_reader.specs.Iteration.{is_in, flags_of, alive_from}
use Rattle.docstore.specs.Laws.{StackedSlotsAreCounted}
use Rattle.store_reader.specs.Reading.{num_docs, store_of}
use Rattle.store_format.specs.Slots.{slots}
use Rattle.store_format.specs.StoreFile.{StoreBlock}
use Rattle.store_merge.specs.declared.input.MergeInput.{MergeInput}
use Rattle.store_merge.specs.Bringing.{Brought, stacked, copied, slots_brought, IsBrought, AreBrought}
use Rattle.store_merge.specs.Choice.{is_first_version, first_old, alive_slots}
use Rattle.store_merge.specs.Inputs.{HasWholeSet, CanBeTaken}
use Rattle.store_merge.specs.Merge.{IsHonest}

-- ---- versions

none_passes : {A : Type 0} (p : A → Bool) (xs : List A) → position p xs ≡ None → length xs ≤ position_or_len p xs
none_passes p xs none = elim (cases_lt (position_or_len p xs) (length xs)) [
  | inl lt ↦ absurd (let h = subst (λ (b : Bool). cond b (Some (position_or_len p xs)) None ≡ None) (lt-ltb (position_or_len p xs) (length xs) lt) none in cc)
  | inr le ↦ le
]

can_be : {H : Type 0} (xs : List (MergeInput H)) → AllByRecursion HasWholeSet xs → ((k : ℕ) (d : MergeInput H) → k < length xs → is_first_version (get_or xs k d).reader.version ≡ false)
    → AllByRecursion CanBeTaken xs
can_be [] h new = tt
can_be (x ∷ xs) h new = (
  record { set = h.0; version = λ is. absurd (let p : true ≡ false = sym (ap is_first_version is) ∙ new 0 x (omega arith) in cc) },
  can_be xs h.1 (λ k d lt. new (suc k) d (omega (arith, lt))),
)

pub can_be_taken : {H : Type 0} (xs : List (MergeInput H)) → AllByRecursion HasWholeSet xs → first_old xs ≡ None → AllByRecursion CanBeTaken xs
can_be_taken {H} xs h none =
    let p : MergeInput H → Bool = λ x. is_first_version x.reader.version in
    can_be xs h (λ k d lt. fails_before_first p xs k d (omega (arith, lt, none_passes p xs none)))

-- ---- slots

-- where each id is in the set, so is each slot
pub all_alive : (set : Option (ℕ → Bool)) (n : ℕ) (xs : List Slot) → list_all (is_in set) (range_with_len n (length xs)) ≡ true → alive_from n xs set ≡ xs
all_alive set n [] is = refl
all_alive set n (x ∷ xs) is =
    let h = both (is_in set n) (list_all (is_in set) (range_with_len (n + 1) (length xs))) is in
    ap (λ (b : Bool). map (λ (y : ℕ × Slot). y.1) (cond b ((n, x) ∷ filter (λ (y : ℕ × Slot). is_in set y.0) (enumerate_from (n + 1) xs))
    (filter (λ (y : ℕ × Slot). is_in set y.0) (enumerate_from (n + 1) xs)))) h.0
    ∙ ap (λ (ys : List Slot). x ∷ ys) (all_alive set (n + 1) xs h.1)

module _ (law : StackedSlotsAreCounted) where
  brought_slots : {H : Type 0} (x : MergeInput H) (part : Brought) → IsHonest x → IsBrought x part → slots_brought part ≡ alive_slots x
  brought_slots x (stacked bs) honest h =
      let set = flags_of x.alive in
      let same : bs ≡ store_of x.reader = h.1.honest honest in
      let count : num_docs x.reader ≡ length (slots (store_of x.reader)) = sym (law x.reader bs h.1) ∙ ap (λ (b : List StoreBlock). length (slots b)) same in
      let all : list_all (is_in set) (range_with_len 0 (num_docs x.reader)) ≡ true = (both _ (list_all (is_in set) (range_with_len 0 (num_docs x.reader))) h.0).1 in
      ap slots same ∙ sym (all_alive set 0 (slots (store_of x.reader)) (subst (λ (n : ℕ). list_all (is_in set) (range_with_len 0 n) ≡ true) count all))
  brought_slots x (copied docs) honest h = h.1.truly honest

  pub all_slots : {H : Type 0} (xs : List (MergeInput H)) (parts : List Brought) → AllByRecursion IsHonest xs → AreBrought xs parts → flat_map slots_brought parts ≡ flat_map alive_slots xs
  all_slots [] [] honest h = refl
  all_slots (x ∷ xs) (part ∷ parts) honest h = λ i. brought_slots x part honest.0 h.0 i ++ all_slots xs parts honest.1 h.1 i
  all_slots [] (part ∷ parts) honest h = absurd h
  all_slots (x ∷ xs) [] honest h = absurd h
