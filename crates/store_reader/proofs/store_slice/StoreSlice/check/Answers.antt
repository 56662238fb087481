use Rattle.std.proofs.Common.{◌≡◌, ℕ, Some, sym, ap, ◌∙◌}
use Rattle.std.proofs.lemmas.Option.{none-some}
use Rattle.store_reader.proofs.CoveringLemmas.{some_pair}
use Rattle.store_reader.proofs.StoreSliceLemmas.{seen_parts, index_of_some}
use Rattle.store_reader.proofs.StoreCheckLemmas.{checked_store, breaks_index, no_store, covers_less}
use Rattle.store_reader.proofs.store_slice.StoreSlice.check.Goals as goal

pub returns-in-Err-clause-broken : goal.returns-in-Err-clause-broken
returns-in-Err-clause-broken c =
    let is = seen_parts _ _ _ _ _ c.self.view_is c.self.invariant in
    let broken = c.in-Err.ensures.broken in
    (no_store _ _ _ _ is (λ has. broken.0 (index_of_some _ _ _ has)), breaks_index _ _ _ _ _ is broken)

pub returns-in-Some-clause-checked : goal.returns-in-Some-clause-checked
returns-in-Some-clause-checked c =
    let is = seen_parts _ _ _ _ _ c.self.view_is c.self.invariant in
    checked_store _ _ _ _ _ _ _ _ is c.in-Ok.ensures.checked (c.in-Some.is ∙ ap (λ (n : ℕ). Some (c.in-Some.docs, n)) c.if-end-start.true)

-- the end of what is covered is not that of the data
ends_apart : (c : goal.Else-end-start) (docs : ℕ) → c.in-Ok.index.covered ≡ Some (docs, c.self.inside.data_len) → ⊥
ends_apart c docs e = c.if-end-start.false (some_pair _ _ docs _ (sym c.in-Some.is ∙ e)).1

pub returns-in_default-clause-broken : goal.returns-in_default-clause-broken
returns-in_default-clause-broken c =
    (covers_less _ _ _ _ _ _ _ (seen_parts _ _ _ _ _ c.self.view_is c.self.invariant) c.in-Ok.ensures.checked (ends_apart c)).0

pub returns-in_default-clause-first : goal.returns-in_default-clause-first
returns-in_default-clause-first c =
    (covers_less _ _ _ _ _ _ _ (seen_parts _ _ _ _ _ c.self.view_is c.self.invariant) c.in-Ok.ensures.checked (ends_apart c)).1

pub returns-in_default-2-clause-broken : goal.returns-in_default-2-clause-broken
returns-in_default-2-clause-broken c =
    (covers_less _ _ _ _ _ _ _ (seen_parts _ _ _ _ _ c.self.view_is c.self.invariant) c.in-Ok.ensures.checked (λ docs e. none-some _ (sym c.in_default.is ∙ e))).0

pub returns-in_default-2-clause-first : goal.returns-in_default-2-clause-first
returns-in_default-2-clause-first c =
    (covers_less _ _ _ _ _ _ _ (seen_parts _ _ _ _ _ c.self.view_is c.self.invariant) c.in-Ok.ensures.checked (λ docs e. none-some _ (sym c.in_default.is ∙ e))).1
