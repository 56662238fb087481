-- A list in runs, and what holds of each run.
use Rattle.std.proofs.Common.{◌≡◌, ℕ, zero, suc, ◌+◌, ◌≤◌, List, [], ◌∷◌, ◌++◌, length, take, drop, refl, ◌∙◌, ap, arith}
use Rattle.std.proofs.lemmas.List.{take-append-drop, length-drop}
use Rattle.std.specs.List.{flat_map}
use Rattle.layered_index.specs.Layers.{groups, groups_within}

-- enough runs are as good as more
turns : {A : Type 0} (f g period : ℕ) (xs : List A) → 1 ≤ period → length xs ≤ f → length xs ≤ g → groups_within f period xs ≡ groups_within g period xs
unfolding groups_within
turns zero zero period [] one p q = refl
turns zero (suc g) period [] one p q = refl
turns (suc f) zero period [] one p q = refl
turns (suc f) (suc g) period [] one p q = refl
turns zero g period (x ∷ xs) one p q = absurd (omega arith)
turns (suc f) zero period (x ∷ xs) one p q = absurd (omega arith)
turns {A} (suc f) (suc g) period (x ∷ xs) one p q =
    let shorter : length (drop period (x ∷ xs)) + 1 ≤ length (x ∷ xs) = omega (arith, length-drop period (x ∷ xs)) in
    ap (λ (runs : List (List A)). take period (x ∷ xs) ∷ runs) (turns f g period (drop period (x ∷ xs)) one (omega arith) (omega arith))

pub groups_none : {A : Type 0} (period : ℕ) → groups {A = A} period [] ≡ []
unfolding groups groups_within
groups_none period = refl

-- the first run, and then those of the rest
pub groups_more : {A : Type 0} (period : ℕ) (x : A) (xs : List A) → 1 ≤ period → groups period (x ∷ xs) ≡ take period (x ∷ xs) ∷ groups period (drop period (x ∷ xs))
unfolding groups groups_within
groups_more {A} period x xs one =
    let shorter : length (drop period (x ∷ xs)) + 1 ≤ length (x ∷ xs) = omega (arith, length-drop period (x ∷ xs)) in
    ap (λ (runs : List (List A)). take period (x ∷ xs) ∷ runs) (turns (length xs) (length (drop period (x ∷ xs))) period (drop period (x ∷ xs)) one (omega arith) (omega arith))

-- Runs by induction: what holds of the empty list, and of a list where it holds of what is after its first run, holds of each list.
pub by_runs : {A : Type 0} (period : ℕ) (P : List A → Type 0) → 1 ≤ period → P [] → ((x : A) (xs : List A) → P (drop period (x ∷ xs)) → P (x ∷ xs)) → (xs : List A) → P xs
by_runs {A} period P one none more xs = go (length xs) xs (omega arith)
  where
    go : (k : ℕ) (ys : List A) → length ys ≤ k → P ys
    go k [] le = none
    go zero (y ∷ ys) le = absurd (omega arith)
    go (suc k) (y ∷ ys) le = more y ys (go k (drop period (y ∷ ys)) (omega (arith, length-drop period (y ∷ ys))))

-- the runs joined are the list
pub groups_joined : {A : Type 0} (period : ℕ) (xs : List A) → 1 ≤ period → flat_map (λ g. g) (groups period xs) ≡ xs
groups_joined {A} period xs one = by_runs period (λ ys. flat_map (λ g. g) (groups period ys) ≡ ys) one
    (ap (flat_map (λ (g : List A). g)) (groups_none period))
    (λ y ys h. ap (flat_map (λ (g : List A). g)) (groups_more period y ys one) ∙ ap (λ (zs : List A). take period (y ∷ ys) ++ zs) h ∙ take-append-drop period (y ∷ ys))
    xs
