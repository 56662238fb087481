-- A text and the zero after it.
use Rattle.std.proofs.Common.{◌≡◌, ℕ, zero, suc, ◌+◌, ◌<◌, List, [], ◌∷◌, ◌++◌, length, drop, set, refl, sym, ap, ◌∙◌, arith}
use Rattle.std.proofs.lemmas.List.{drop-set, drop-set-add}

set_after : (t xs : List ℕ) (n y : ℕ) → n ≡ length t → set (t ++ xs) n y ≡ t ++ set xs 0 y
set_after [] xs zero y e = refl
set_after [] xs (suc n) y e = absurd (omega arith)
set_after (x ∷ t) xs zero y e = absurd (omega arith)
set_after (x ∷ t) xs (suc n) y e = ap (λ (ys : List ℕ). x ∷ ys) (set_after t xs n y (omega arith))

-- a text at the front of some bytes, and a zero where it ends
pub ended : (t old : List ℕ) (n : ℕ) → n ≡ length t → n < length old → set (t ++ drop n old) n 0 ≡ t ++ (0 ∷ drop (n + 1) old)
ended t old n e lt =
    let place : n + 0 ≡ n = omega arith in
    set_after t (drop n old) n 0 e
    ∙ ap (λ (xs : List ℕ). t ++ xs) (sym (drop-set-add n old 0 0) ∙ ap (λ (i : ℕ). drop n (set old i 0)) place ∙ drop-set old n 0 lt)
