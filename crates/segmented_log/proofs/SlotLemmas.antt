-- Slots of several lists, one after the other.
use Rattle.std.proofs.Common.{◌≡◌, ⊎_elim, ℕ, zero, suc, ◌+◌, ◌<◌, ◌≤◌, List, [], ◌∷◌, ◌++◌, length, take, drop, map, Some, refl, sym, ap, subst, arith, length-append}
use Rattle.std.specs.Prelude.{slice_get}
use Rattle.std.specs.List.{AllByRecursion, Contains, flat_map}
use Rattle.std.proofs.lemmas.Grind.{flat_map-append}
use Rattle.std.proofs.lemmas.List.Elements.{Contains-append_left, Contains-append_right, Contains-append_cases}
use Rattle.store_format.specs.Block.{Slot}
use Rattle.segmented_log.specs.Parts.{Part}
use Rattle.segmented_log.specs.Compacting.{slots_in, IsRun}
use Rattle.segmented_log.proofs.RunOfParts.{with_joined}

-- what is at a place is an element
pub get_contains : (xs : List Slot) (i : ℕ) (s : Slot) → slice_get xs i ≡ Some s → Contains xs s
get_contains [] i s is = let none : ⊥ = cc in absurd none
get_contains (x ∷ xs) zero s is =
    let same : x ≡ s = cc in
    Contains-append_left (x ∷ []) xs s (subst (λ (y : Slot). Contains (x ∷ []) y) same (0, omega arith, refl))
get_contains (x ∷ xs) (suc i) s is = Contains-append_right (x ∷ []) xs s (get_contains xs i s is)

pub get_within : (xs : List Slot) (i : ℕ) (s : Slot) → slice_get xs i ≡ Some s → i < length xs
get_within [] i s is = let none : ⊥ = cc in absurd none
get_within (x ∷ xs) zero s is = omega arith
get_within (x ∷ xs) (suc i) s is = omega (arith, get_within xs i s is)

-- of a list of things that have slots
module _ {X : Type 0} (f : X → List Slot) where
  pub one_of_all : (P : X → Type 0) (xs : List X) (i : ℕ) (x : X) → slice_get xs i ≡ Some x → AllByRecursion P xs → P x
  one_of_all P [] i x is all = let none : ⊥ = cc in absurd none
  one_of_all P (y ∷ ys) zero x is all = let same : y ≡ x = cc in subst P same all.0
  one_of_all P (y ∷ ys) (suc i) x is all = one_of_all P ys i x is all.1

  -- a slot of one of them is a slot of all
  pub in_all : (xs : List X) (i : ℕ) (x : X) (s : Slot) → slice_get xs i ≡ Some x → Contains (f x) s → Contains (flat_map f xs) s
  in_all [] i x s is has = let none : ⊥ = cc in absurd none
  in_all (y ∷ ys) zero x s is has = let same : x ≡ y = cc in Contains-append_left (f y) (flat_map f ys) s (subst (λ z. Contains (f z) s) same has)
  in_all (y ∷ ys) (suc i) x s is has = Contains-append_right (f y) (flat_map f ys) s (in_all ys i x s is has)

  -- those before a place and those at it are no more than all
  pub fewer_before : (xs : List X) (i : ℕ) (x : X) → slice_get xs i ≡ Some x → length (flat_map f (take i xs)) + length (f x) ≤ length (flat_map f xs)
  fewer_before [] i x is = let none : ⊥ = cc in absurd none
  fewer_before (y ∷ ys) zero x is = let same : f x ≡ f y = ap f cc in omega (arith, ap length same, length-append (f y) (flat_map f ys))
  fewer_before (y ∷ ys) (suc i) x is = omega (arith, fewer_before ys i x is, length-append (f y) (flat_map f ys), length-append (f y) (flat_map f (take i ys)))

-- ---- slots of some of the parts

-- what holds a slot of the first part or of the others holds one of all
either : (p : Part) (some all : List Part) (s : Slot) → (Contains (slots_in some) s → Contains (slots_in all) s) → Contains (slots_in (p ∷ some)) s → Contains (slots_in (p ∷ all)) s
either p some all s more has = ⊎_elim (λ here. Contains-append_left p.slots (slots_in all) s here) (λ there. Contains-append_right p.slots (slots_in all) s (more there))
    (Contains-append_cases p.slots (slots_in some) s has)

module _ {X : Type 0} (f : X → Part) (s : Slot) where
  in_taken : (n : ℕ) (xs : List X) → Contains (slots_in (map f (take n xs))) s → Contains (slots_in (map f xs)) s
  in_taken zero [] has = has
  in_taken zero (x ∷ xs) has = absurd (omega (arith, has.1))
  in_taken (suc n) [] has = has
  in_taken (suc n) (x ∷ xs) has = either (f x) (map f (take n xs)) (map f xs) s (in_taken n xs) has

  in_dropped : (n : ℕ) (xs : List X) → Contains (slots_in (map f (drop n xs))) s → Contains (slots_in (map f xs)) s
  in_dropped zero xs has = has
  in_dropped (suc n) [] has = has
  in_dropped (suc n) (x ∷ xs) has = Contains-append_right (f x).slots (slots_in (map f xs)) s (in_dropped n xs has)

  pub in_part : (place n : ℕ) (xs : List X) → Contains (slots_in (map f (take n (drop place xs)))) s → Contains (slots_in (map f xs)) s
  in_part place n xs has = in_dropped place xs (in_taken n (drop place xs) has)

  pub in_left : (i : ℕ) (xs : List X) → Contains (slots_in (map f (take i xs ++ drop (suc i) xs))) s → Contains (slots_in (map f xs)) s
  in_left zero [] has = has
  in_left zero (x ∷ xs) has = Contains-append_right (f x).slots (slots_in (map f xs)) s has
  in_left (suc i) [] has = has
  in_left (suc i) (x ∷ xs) has = either (f x) (map f (take i xs ++ drop (suc i) xs)) (map f xs) s (in_left i xs) has

-- a run that is joined has no other slots
pub in_joined : (parts : List Part) (place count : ℕ) (r : IsRun parts place count) (s : Slot) → Contains (slots_in (with_joined r)) s → Contains (slots_in parts) s
in_joined parts place count r s has = subst (λ (l : List Part). Contains (slots_in l) s) (sym r.split) (by r.before has)
  where
    in_run : Contains (slots_in r.run) s → Contains (slots_in (r.run ++ r.after)) s
    in_run in_it = subst (λ (l : List Slot). Contains l s) (sym (flat_map-append (λ p. p.slots) r.run r.after)) (Contains-append_left (slots_in r.run) (slots_in r.after) s in_it)

    by : (some : List Part) → Contains (slots_in (some ++ record { first = r.head.first; slots = r.head.slots ++ slots_in r.run } ∷ (r.run ++ r.after))) s
        → Contains (slots_in (some ++ r.head ∷ (r.run ++ r.after))) s
    by [] in_it = ⊎_elim
        (λ one. ⊎_elim
        (λ here. Contains-append_left r.head.slots (slots_in (r.run ++ r.after)) s here)
        (λ there. Contains-append_right r.head.slots (slots_in (r.run ++ r.after)) s (in_run there))
        (Contains-append_cases r.head.slots (slots_in r.run) s one))
        (λ later. Contains-append_right r.head.slots (slots_in (r.run ++ r.after)) s later)
        (Contains-append_cases (r.head.slots ++ slots_in r.run) (slots_in (r.run ++ r.after)) s in_it)
    by (p ∷ some) in_it = either p (some ++ record { first = r.head.first; slots = r.head.slots ++ slots_in r.run } ∷ (r.run ++ r.after)) (some ++ r.head ∷ (r.run ++ r.after)) s (by some) in_it
