use Rattle.std.proofs.Common.{◌≤◌, List, length, take, ap, ◌∙◌, subst, arith}
use Rattle.layered_index.specs.declared.checkpoint.Checkpoint.{Checkpoint}
use Rattle.layered_index.specs.LayerReading.{items}
use Rattle.layered_index.specs.Rows.{AreRowsOf}
use Rattle.layered_index.specs.Sought.{IndexBytes}
use Rattle.layered_index.proofs.OutlineLemmas.{rows_above, same_front}
use Rattle.layered_index.proofs.index_slice.IndexSlice.outline.Goals as goal

pub returns-clause-answer : goal.returns-clause-answer
returns-clause-answer c cs is =
    let v = c.args.self.now in
    let one : 1 ≤ v.period = subst (λ (w : IndexBytes). 1 ≤ w.period) c.self.view_is (omega (arith, c.self.invariant.two)) in
    let layer = items 0 0 0 c.in_ok-deepest.deepest.layer.now in
    let n = c.fill-count.result in
    let deepest = c.in_ok-deepest.ensures.answer cs is in
    let filled : AreRowsOf layer (take n c.fill-count.new.rows) =
    subst (λ (cs : List Checkpoint). AreRowsOf cs (take n c.fill-count.new.rows)) c.new.ensures (c.fill-count.ensures.filled (omega (arith, ap length c.new.ensures, deepest.fits))) in
    rows_above v.period (length c.args.rows.now) c.in_ok-deepest.deepest.height cs layer _ one deepest
    (same_front n c.fill-count.new.rows c.write_guides.new.rows (omega (arith, c.fill-count.ensures.room)) c.write_guides.ensures ∙ filled)
