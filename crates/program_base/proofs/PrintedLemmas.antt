-- Ranges that are printed one after the other.
use Rattle.std.proofs.Common.{◌≡◌, ◌∙◌, ℕ, List, [], ◌∷◌, ◌++◌, Option, None, Some, subst, sym, append-nil}
use Rattle.std.specs.Io.KnownBytes.{Appends, Keeps}
use Rattle.std.specs.List.{concat}
use Rattle.std.proofs.KnownBytes.{Appends-nil, Appends-trans}
use Rattle.std.proofs.lemmas.List.Folds.{concat-append}
use Rattle.program_base.specs.PrintedRanges.{AreEach, PrintsEach}

are_both : (Are : Option ℕ × Option ℕ → List ℕ → Type 0) (first next : List (Option ℕ × Option ℕ)) (some others : List (List ℕ)) → AreEach Are first some
    → AreEach Are next others → AreEach Are (first ++ next) (some ++ others)
are_both Are [] next [] others p q = q
are_both Are [] next (x ∷ xs) others p q = absurd p
are_both Are (r ∷ rs) next [] others p q = absurd p
are_both Are (r ∷ rs) next (x ∷ xs) others p q = (p.0, are_both Are rs next xs others p.1 q)

are_mapped : (Are Have : Option ℕ × Option ℕ → List ℕ → Type 0) → ((range : Option ℕ × Option ℕ) (bytes : List ℕ) → Are range bytes → Have range bytes)
    → (ranges : List (Option ℕ × Option ℕ)) (parts : List (List ℕ)) → AreEach Are ranges parts → AreEach Have ranges parts
are_mapped Are Have follows [] [] p = tt
are_mapped Are Have follows [] (x ∷ xs) p = absurd p
are_mapped Are Have follows (r ∷ rs) [] p = absurd p
are_mapped Are Have follows (r ∷ rs) (x ∷ xs) p = (follows r x p.0, are_mapped Are Have follows rs xs p.1)

kept_as_nothing : (old new : Option (List ℕ)) → Keeps old new → Appends old new []
kept_as_nothing None new kept = tt
kept_as_nothing (Some x) None kept = absurd kept
kept_as_nothing (Some x) (Some y) kept = kept ∙ sym (append-nil x)

-- an output that was kept has none more
pub prints_none : (Are : Option ℕ × Option ℕ → List ℕ → Type 0) (old new : Option (List ℕ)) → Keeps old new → PrintsEach Are [] old new
prints_none Are old new kept = record { parts = []; are = tt; printed = kept_as_nothing old new kept }

-- one range
pub prints_one : (Are : Option ℕ × Option ℕ → List ℕ → Type 0) (range : Option ℕ × Option ℕ) (bytes : List ℕ) (old new : Option (List ℕ)) → Are range bytes
    → Appends old new bytes → PrintsEach Are (range ∷ []) old new
prints_one Are range bytes old new is printed =
    record { parts = bytes ∷ []; are = (is, tt); printed = subst (Appends old new) (sym (append-nil bytes)) printed }

-- two steps
pub prints_more : (Are : Option ℕ × Option ℕ → List ℕ → Type 0) (first next : List (Option ℕ × Option ℕ)) (old mid new : Option (List ℕ)) → PrintsEach Are first old mid
    → PrintsEach Are next mid new → PrintsEach Are (first ++ next) old new
prints_more Are first next old mid new p q = record {
  parts = p.parts ++ q.parts;
  are = are_both Are first next p.parts q.parts p.are q.are;
  printed = subst (Appends old new) (sym (concat-append p.parts q.parts)) (Appends-trans old mid new (concat p.parts) (concat q.parts) p.printed q.printed);
}

-- what follows of each range
pub prints_mapped : (Are Have : Option ℕ × Option ℕ → List ℕ → Type 0) → ((range : Option ℕ × Option ℕ) (bytes : List ℕ) → Are range bytes → Have range bytes)
    → (ranges : List (Option ℕ × Option ℕ)) (old new : Option (List ℕ)) → PrintsEach Are ranges old new → PrintsEach Have ranges old new
prints_mapped Are Have follows ranges old new p =
    record { parts = p.parts; are = are_mapped Are Have follows ranges p.parts p.are; printed = p.printed }
