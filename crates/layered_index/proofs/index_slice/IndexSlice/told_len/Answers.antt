use Rattle.std.proofs.Common.{◌≤◌, ◌/◌, length, ◌∙◌, ap, subst}
use Rattle.layered_index.specs.LayerReading.{items}
use Rattle.layered_index.specs.Rows.{IsDeepest}
use Rattle.layered_index.specs.Sought.{IndexBytes}
use Rattle.layered_index.proofs.OutlineLemmas.{bottom_fits}
use Rattle.layered_index.proofs.index_slice.IndexSlice.told_len.Goals as goal

pub returns-clause-answer : goal.returns-clause-answer
returns-clause-answer c cs is =
    let v = c.args.self.now in
    let x = c.in_ok-deepest.field-0 in
    let layer = items 0 0 0 x.layer.now in
    let two : 2 ≤ v.period = subst (λ (w : IndexBytes). 2 ≤ w.period) c.self.view_is c.self.invariant.two in
    let deepest = subst (λ (w : IndexBytes). IsDeepest v.period (length w.bytes / 2) cs x.height layer) c.self.view_is (c.in_ok-deepest.ensures.answer cs is) in
    c.in_ok-deepest.ensures.counted cs is ∙ ap length (bottom_fits v.period v.bytes x.height cs layer two is deepest)
