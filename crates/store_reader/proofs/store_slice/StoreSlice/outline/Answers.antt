use Rattle.std.proofs.Common.{ℕ, ◌≤◌, length, take, subst, ◌∙◌}
use Rattle.layered_index.specs.Layers.{digit_count}
use Rattle.layered_index.specs.Rows.{AreRowsAbove}
use Rattle.store_format.specs.StoreFile.{checkpoints_of}
use Rattle.store_reader.proofs.StoreSliceLemmas.{seen_laid, stored_index}
use Rattle.store_reader.proofs.StoreOutlineLemmas.{outline_is, deepest_is}
use Rattle.store_reader.proofs.store_slice.StoreSlice.outline.Goals as goal

pub returns-in_err-outline-clause-store : goal.returns-in_err-outline-clause-store
returns-in_err-outline-clause-store c s =
    absurd (c.in_err-outline.ensures.answer (checkpoints_of s.blocks) (stored_index _ _ _ _ s (seen_laid _ _ _ _ _ c.self.view_is c.self.invariant s)))

pub returns-clause-store : goal.returns-clause-store
returns-clause-store c s =
    let laid = seen_laid _ _ _ _ _ c.self.view_is c.self.invariant s in
    let cs = checkpoints_of s.blocks in
    let is = stored_index _ _ _ _ s laid in
    let o = c.in_ok-outline.outline in
    let within = subst (λ (p : ℕ). o.height ≤ digit_count p (length cs)) laid.period_is (c.in_ok-outline.ensures.height cs is) in
    let are = subst (λ (p : ℕ). AreRowsAbove p o.height cs (take o.rows c.outline.new.rows)) laid.period_is (c.in_ok-outline.ensures.answer cs is) in
    outline_is _ s _ _ o.height o.rows _ _ laid.data_is (c.period.ensures.period ∙ laid.period_is) within are (c.lower_marks.ensures s within)

pub returns-clause-deepest : goal.returns-clause-deepest
returns-clause-deepest c s =
    let laid = seen_laid _ _ _ _ _ c.self.view_is c.self.invariant s in
    let cs = checkpoints_of s.blocks in
    let is = stored_index _ _ _ _ s laid in
    let height = c.in_ok-outline.outline.height in
    let within = subst (λ (p : ℕ). height ≤ digit_count p (length cs)) laid.period_is (c.in_ok-outline.ensures.height cs is) in
    deepest_is cs _ s.period (length c.args.rows.now) height _ laid.period_is (c.lower_marks.ensures s within).0 (c.in_ok-outline.ensures.deepest cs is)
