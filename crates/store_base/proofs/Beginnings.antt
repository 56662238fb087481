-- What stood in front and stands there.
use Rattle.std.proofs.Common.{◌≡◌, ℕ, ◌≤◌, List, [], ◌∷◌, ◌++◌, length, take, refl, sym, ◌∙◌, ap, arith}
use Rattle.std.proofs.lemmas.List.{take_at, length-take, take-append-le}
use Rattle.store_base.specs.Documents.{BeginsWith}

-- what stood under a longer beginning stands
pub begins_before : (old more new : List ℕ) → BeginsWith (old ++ more) new → BeginsWith old new
begins_before old more new h =
    let e = ap (take (length old)) h in
    sym (shorter old more new) ∙ e ∙ take_at old more (length old) refl
  where
    shorter : (old more new : List ℕ) → take (length old) (take (length (old ++ more)) new) ≡ take (length old) new
    shorter [] more new = refl
    shorter (x ∷ old) more [] = refl
    shorter (x ∷ old) more (y ∷ new) = ap (λ (t : List ℕ). y ∷ t) (shorter old more new)
