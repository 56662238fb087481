-- Two listings of one folder have the same segments.
use Rattle.std.proofs.Common.{◌≡◌, ◌⊎◌, inl, inr, ⊎_elim, ℕ, zero, suc, ◌<◌, List, [], ◌∷◌, nat_eq, true, refl, sym, subst, arith}
use Rattle.std.specs.List.{Contains}
use Rattle.std.specs.List.Sorted.{IsStrictlyIncreasing, IsStrictlySortedBy}
use Rattle.std.specs.Ordering.{nat_cmp}
use Rattle.std.proofs.lemmas.Cmp.{nat_list_eq_equiv}
use lib.Pointwise.{pointwise}
use Rattle.std.proofs.lemmas.Map.Keys.{sorted_tail, below_from_sorted, sorted_from_strictly_increasing}
use Rattle.store_folder.specs.Folder.{Look, AreNames}
use Rattle.segmented_log.specs.Names.{segment_name}
use Rattle.segmented_log.specs.Opening.{AreNumbersIn}

none_in : (k : ℕ) → Contains [] k → ⊥
none_in k among = absurd (omega (arith, among.1))

front : (x : ℕ) (xs : List ℕ) → Contains (x ∷ xs) x
front x xs = (0, omega arith, refl)

front_or_later : (x : ℕ) (xs : List ℕ) (k : ℕ) → Contains (x ∷ xs) k → (x ≡ k) ⊎ Contains xs k
front_or_later x xs k (zero, within, is) = inl is
front_or_later x xs k (suc i, within, is) = inr (i, omega (arith, within), is)

above_front : (x : ℕ) (xs : List ℕ) (k : ℕ) → IsStrictlySortedBy nat_cmp (x ∷ xs) → Contains xs k → x < k
above_front x xs k sorted (i, within, is) =
    subst (λ (n : ℕ). x < n) is (below_from_sorted (x ∷ xs) 0 (suc i) k sorted (omega arith) (omega (arith, within)))

-- a later number of one list is a later one of the other
still_later : (x : ℕ) (xs : List ℕ) (y : ℕ) (ys : List ℕ) → x ≡ y → IsStrictlySortedBy nat_cmp (x ∷ xs) → ((k : ℕ) → Contains (x ∷ xs) k → Contains (y ∷ ys) k) → (k : ℕ) → Contains xs k
    → Contains ys k
still_later x xs y ys same sorted others k later =
    ⊎_elim (λ is. absurd (omega (arith, same, is, above_front x xs k sorted later))) (λ among. among)
    (front_or_later y ys k (others k (suc later.0, omega (arith, later.1), later.2)))

same_sorted : (xs ys : List ℕ) → IsStrictlySortedBy nat_cmp xs → IsStrictlySortedBy nat_cmp ys → ((k : ℕ) → Contains xs k → Contains ys k) → ((k : ℕ) → Contains ys k → Contains xs k) → xs ≡ ys
same_sorted [] [] up up' to from = refl
same_sorted [] (y ∷ ys) up up' to from = absurd (none_in y (from y (front y ys)))
same_sorted (x ∷ xs) [] up up' to from = absurd (none_in x (to x (front x xs)))
same_sorted (x ∷ xs) (y ∷ ys) up up' to from =
    let first : x ≡ y =
    ⊎_elim (λ is. sym is)
    (λ later.
    let low : y < x = above_front y ys x up' later in
    ⊎_elim (λ is. is) (λ high. absurd (omega (arith, low, above_front x xs y up high))) (front_or_later x xs y (from y (front y ys))))
    (front_or_later y ys x (to x (front x xs))) in
    let rest = same_sorted xs ys (sorted_tail nat_cmp x xs up) (sorted_tail nat_cmp y ys up') (still_later x xs y ys first up to) (still_later y ys x xs (sym first) up' from) in
    λ i. first i ∷ rest i

pub one_listing : (seen : Look) (names others : List (List ℕ)) (numbers more : List ℕ) → AreNames seen names → AreNames seen others → AreNumbersIn names numbers → AreNumbersIn others more
    → IsStrictlyIncreasing numbers → IsStrictlyIncreasing more → numbers ≡ more
one_listing seen names others numbers more all all' of of' up up' =
    same_sorted numbers more (sorted_from_strictly_increasing numbers up) (sorted_from_strictly_increasing more up')
    (λ k among. of'.each k (of.fits k among) (all'.each (segment_name k) (all.only (segment_name k) (of.only k among))))
    (λ k among. of.each k (of'.fits k among) (all.each (segment_name k) (all'.only (segment_name k) (of'.only k among))))

pub same_list : (xs ys : List ℕ) → xs ≡ ys → pointwise nat_eq xs ys ≡ true
same_list xs ys same = subst (λ (l : List ℕ). pointwise nat_eq xs l ≡ true) same (nat_list_eq_equiv.refl xs)
