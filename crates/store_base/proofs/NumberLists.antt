-- Reading a list of numbers one after the other, as a loop does.
use Rattle.std.proofs.Common.{◌≡◌, ℕ, ◌<◌, List, [], ◌∷◌, ◌++◌, Err, refl, sym, ◌∙◌, ap, append_assoc, inr}
use Rattle.std.proofs.lemmas.List.{append-nil}
use Rattle.std.specs.List.{flat_map, AllByRecursion}
use Rattle.store_base.specs.declared.fault.DecodeFault.{DecodeFault}
use Rattle.store_base.specs.declared.fault.DecodeFault.TheVariants.{Short, Malformed, Version, Kind, Memory, Period}
use Rattle.store_base.specs.VInt.{number}
use Rattle.store_base.specs.Reading.{IsBelow}
use Rattle.store_base.specs.Numbers.{ReadsNumbers, FailsAt}

pub below-push : (limit : ℕ) (ns : List ℕ) (n : ℕ) → AllByRecursion (IsBelow limit) ns → n < limit → AllByRecursion (IsBelow limit) (ns ++ n ∷ [])
below-push limit [] n all lt = (lt, tt)
below-push limit (m ∷ ns) n all lt = (all.0, below-push limit ns n all.1 lt)

-- a number that isn't one gives its fault
pub fails_at : (old : List ℕ) (e : DecodeFault) → FailsAt old e → ReadsNumbers old (Err e) old
fails_at old Short at = (inr (inr at), refl)
fails_at old Malformed at = (inr (inr at), refl)
fails_at old (Version v) at = absurd at.fails
fails_at old (Kind k) at = absurd at.fails
fails_at old (Period p) at = absurd at.fails
fails_at old Memory at = absurd at.fails

-- one number more
pub numbers-push : (ns : List ℕ) (n : ℕ) (rest : List ℕ) → flat_map number (ns ++ n ∷ []) ++ rest ≡ flat_map number ns ++ (number n ++ rest)
numbers-push [] n rest = ap (λ (t : List ℕ). t ++ rest) (append-nil (number n))
numbers-push (m ∷ ns) n rest =
    append_assoc (number m) (flat_map number (ns ++ n ∷ [])) rest ∙ ap (λ (t : List ℕ). number m ++ t) (numbers-push ns n rest) ∙ sym (append_assoc (number m) (flat_map number ns) (number n ++ rest))
