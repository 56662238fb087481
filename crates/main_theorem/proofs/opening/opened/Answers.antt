use Rattle.std.proofs.Common.{◌≡◌, ◌⊎◌, inl, inr, List, ℕ, refl, sym, ap, ◌∙◌, subst}
use Rattle.std.specs.Prelude.{IsTrue}
use Rattle.store_base.specs.Files.{Part}
use Rattle.store_base.specs.declared.error.StoreError.{StoreError}
use Rattle.store_base.specs.declared.error.StoreError.TheVariants.{Read, Memory}
use Rattle.store_reader.specs.Opening.{IsSomeStore, RefusesNoStore}
use Rattle.main_theorem.proofs.StackingLemmas.{no_rise}
use Rattle.main_theorem.proofs.opening.opened.Goals as goal

refused : (content bytes : List ℕ) (e : StoreError) → content ≡ bytes → RefusesNoStore content e → (e ≡ Read → ⊥) → (e ≡ Memory) ⊎ (IsSomeStore bytes → ⊥)
refused content bytes e is (inl read) not_read = absurd (not_read read)
refused content bytes e is (inr (inl memory)) not_read = inl memory
refused content bytes e is (inr (inr never)) not_read = inr (λ store. never (subst IsSomeStore (sym is) store))

pub returns-in-Err-clause-refused : goal.returns-in-Err-clause-refused
returns-in-Err-clause-refused c =
    let is = c.new-2.ensures.content ∙ c.in_ok-file.ensures.content ∙ c.in_ok-from_slice.ensures.items in
    let honest = subst IsTrue (sym c.new-2.ensures.honest) refl in
    refused _ _ c.in-Err.refusal.error is (c.in-Err.ensures.honest honest)
    (λ read. no_rise _ _ c.new-2.ensures.failures (ap (λ (p : Part). p.failures) (sym c.refusal.view_is)) (c.in-Err.ensures.failed read))
