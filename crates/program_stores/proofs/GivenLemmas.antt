-- Facts of a result that came.
use Rattle.std.proofs.Common.{◌≡◌, subst, Result, Ok, Err, OnOk, IfOk}

-- a fact of the value, by what it was
pub if_ok_given : {T E : Type 0} (r : Result T E) (x : T) (P : T → Type 0) → r ≡ Ok x → IfOk r P → P x
if_ok_given {T} {E} r x P is holds = subst (λ (r : Result T E). IfOk r P) is holds

pub on_ok_given : {T E : Type 0} (r : Result T E) (x : T) (P : Type 0) → r ≡ Ok x → OnOk r P → P
on_ok_given {T} {E} r x P is holds = subst (λ (r : Result T E). OnOk r P) is holds

-- a fact that holds under another one
pub on_ok_under : {T E : Type 0} (r : Result T E) (P Q : Type 0) → (P → OnOk r Q) → OnOk r (P → Q)
on_ok_under (Ok x) P Q given = given
on_ok_under (Err e) P Q given = tt
