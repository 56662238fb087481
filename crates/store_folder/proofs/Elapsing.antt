-- Time goes on by one step more of a list.
use Rattle.std.proofs.Common.{◌≡◌, ◌⊎◌, inl, inr, ℕ, ◌+◌, ◌≤◌, List, [], ◌∷◌, ◌++◌, length, take, sym, ◌∙◌, ap, subst, arith, length-append}
use Rattle.std.proofs.lemmas.Bool.{cases_lt}
use Rattle.std.proofs.lemmas.List.{take-append-le, take_all}
use Rattle.store_folder.specs.Moments.{Elapses}

-- what was left after some first steps, of which there were t at least
abbrev pub Since : {X C : Type 0} → (List X → C → Type 0) → List X → ℕ → C → Type 0
Since left steps t c = (k : ℕ) × (t ≤ k) × (k ≤ length steps) × left (take k steps) c

pub goes_on : {X C : Type 0} (left : List X → C → Type 0) (old new : List X) (e : X) → new ≡ old ++ e ∷ [] → Elapses (length old) (length new) (Since left old) (Since left new) (left new)
goes_on {X = X} left old new e is = record {
  later = omega (arith, longer);
  nothing_else = λ t c le was. elim (split was.0 was.2) [
    | inl below ↦ inl (was.0, was.1, below, subst (λ (xs : List X). left xs c) (earlier was.0 below) was.3)
    | inr above ↦ inr (subst (λ (xs : List X). left xs c) (take_all was.0 new above) was.3)
  ];
  keeps = λ t c le was. (was.0, was.1, omega (arith, longer, was.2), subst (λ (xs : List X). left xs c) (sym (earlier was.0 was.2)) was.3);
}
  where
    longer : length new ≡ length old + 1
    longer = ap length is ∙ length-append old (e ∷ [])

    earlier : (k : ℕ) → k ≤ length old → take k new ≡ take k old
    earlier k le = ap (λ (xs : List X). take k xs) is ∙ take-append-le k old (e ∷ []) le

    split : (k : ℕ) → k ≤ length new → (k ≤ length old) ⊎ (length new ≤ k)
    split k le = elim (cases_lt (length old) k) [ inl above ↦ inr (omega (arith, longer)) | inr below ↦ inl below ]
