-- Reading items one after the other, as a loop does.
use Rattle.std.proofs.Common.{◌≡◌, ℕ, List, [], ◌∷◌, ◌++◌, Option, Some, None, refl, ap, append_assoc}
use Rattle.store_base.specs.VInt.{◌>>=◌}

-- what was read before, and what is still read
abbrev pub with_front : {A : Type 0} → List A → Option (List A × List ℕ) → Option (List A × List ℕ)
with_front front read = read >>= λ x. Some (front ++ x.0, x.1)

pub regroup : {A : Type 0} (front : List A) (next : A) (read : Option (List A × List ℕ)) → with_front front (read >>= λ x. Some (next ∷ x.0, x.1)) ≡ with_front (front ++ next ∷ []) read
regroup {A} front next (Some x) = ap (λ (items : List A). Some (items, x.1)) (simp append_assoc)
regroup front next None = refl
