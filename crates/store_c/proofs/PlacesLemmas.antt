-- The places of a run of documents.
use Rattle.std.proofs.Common.{◌≡◌, ℕ, zero, suc, ◌+◌, ◌-◌, ◌<◌, ◌≤◌, true, false, nat_lt, List, [], ◌∷◌, length, drop, set, Option, Some, IfSome, refl, sym, ap, ◌∙◌, subst, arith}
use Rattle.std.proofs.Common.{drop-drop}
use Rattle.std.specs.Prelude.{slice_get}
use Rattle.std.proofs.lemmas.Bool.{ltb-true, ltb-false}
use Rattle.std.proofs.lemmas.List.{drop-set-lt}
use Rattle.layered_index.specs.declared.row.Row.{Row}
use Rattle.store_c.specs.declared.place.Place.{Place}
use Rattle.store_c.specs.Calls.{IsPlace, ArePlaces}
use Rattle.store_c.specs.Getting.{IsPlaceIn, ArePlacesIn}

set_here : (ps : List Place) (n : ℕ) (p : Place) → n < length ps → slice_get (set ps n p) n ≡ Some p
set_here [] n p lt = absurd (omega arith)
set_here (x ∷ ps) zero p lt = refl
set_here (x ∷ ps) (suc n) p lt = set_here ps n p (omega arith)

set_before : (ps : List Place) (n j : ℕ) (p : Place) → j < n → slice_get (set ps n p) j ≡ slice_get ps j
set_before [] n j p lt = refl
set_before (x ∷ ps) zero j p lt = absurd (omega arith)
set_before (x ∷ ps) (suc n) zero p lt = refl
set_before (x ∷ ps) (suc n) (suc j) p lt = set_before ps n j p (omega arith)

-- one more of a row of facts on places
pub one_more_of : (P : ℕ → Place → Type 0) (n : ℕ) (ps : List Place) (p : Place) → n < length ps → ((j : ℕ) → j < n → IfSome (slice_get ps j) (P j)) → P n p
    → (j : ℕ) → j < n + 1 → IfSome (slice_get (set ps n p) j) (P j)
one_more_of P n ps p lt are is j below =
    (elim (nat_lt j n) as (λ y. nat_lt j n ≡ y → IfSome (slice_get (set ps n p) j) (P j)) [
      | true ↦ λ t. let before = ltb-true j n t in subst (λ (o : Option Place). IfSome o (P j)) (sym (set_before ps n j p before)) (are j before)
      | false ↦ λ t. let past = ltb-false j n t in let here : n ≡ j = omega arith in
          subst (λ (i : ℕ). IfSome (slice_get (set ps n p) i) (P i)) here
          (subst (λ (o : Option Place). IfSome o (P n)) (sym (set_here ps n p lt)) is)
    ]) refl

-- one more has its place, by a table
pub one_more : (file : List ℕ) (table : List Row) (first n : ℕ) (ps : List Place) (p : Place) → n < length ps → ArePlaces file table first ps n
    → IsPlace file table (first + n) p → ArePlaces file table first (set ps n p) (n + 1)
one_more file table first = one_more_of (λ j. IsPlace file table (first + j))

-- the same by the file alone
pub one_more_in : (file : List ℕ) (first n : ℕ) (ps : List Place) (p : Place) → n < length ps → ArePlacesIn file first ps n → IsPlaceIn file (first + n) p
    → ArePlacesIn file first (set ps n p) (n + 1)
one_more_in file first = one_more_of (λ j. IsPlaceIn file (first + j))

-- what stays after a place stays after a later one
pub further_stay : (n m : ℕ) (ps qs : List Place) → n ≤ m → drop n ps ≡ drop n qs → drop m ps ≡ drop m qs
further_stay n m ps qs le e =
    let whole : n + (m - n) ≡ m = omega arith in
    subst (λ (k : ℕ). drop k ps ≡ drop k qs) whole (sym (drop-drop (m - n) n ps) ∙ ap (drop (m - n)) e ∙ drop-drop (m - n) n qs)

-- those after it stay
pub fewer_stay : {X : Type 0} (n : ℕ) (xs ys : List X) → drop n xs ≡ drop n ys → drop (n + 1) xs ≡ drop (n + 1) ys
fewer_stay n xs ys e = sym (drop-drop 1 n xs) ∙ ap (drop 1) e ∙ drop-drop 1 n ys

pub after_stay : {X : Type 0} (n : ℕ) (xs ys : List X) (x : X) → drop n xs ≡ drop n ys → drop (n + 1) (set xs n x) ≡ drop (n + 1) ys
after_stay n xs ys x e = drop-set-lt (n + 1) xs n x (omega arith) ∙ fewer_stay n xs ys e
