use Rattle.std.proofs.Common.{◌≡◌, ℕ, ◌-◌, ◌+◌, ◌*◌, List, length, drop, sym, ap, ◌∙◌, arith}
use Rattle.layered_index.specs.declared.checkpoint.Checkpoint.{Checkpoint}
use Rattle.layered_index.specs.Layers.{layer_above}
use Rattle.layered_index.specs.LayerReading.{items}
use Rattle.layered_index.specs.Rows.{last_start}
use Rattle.layered_index.proofs.LastRunLemmas.{last_run, no_longer}
use Rattle.layered_index.proofs.outline.end_below.Goals as goal

pub loop-init : goal.loop-init
loop-init c cs h some text above =
    let e = last_run c.args.period cs c.requires.least c.requires.most h some in
    let from : c.new-run.result ≡ e.run = c.new-run.ensures ∙ ap (items 0 0 0) (c.from_byte.ensures ∙ (λ i. drop (sym above.1 i) (text i))) ∙ e.read in
    let full : c.saturating_sub.result ≡ length (layer_above c.args.period cs) - 1 = omega (arith, c.saturating_sub.ensures, above.0) in
    let counted : c.saturating_sub.result * c.args.period + length e.run ≡ length cs = ap (λ (n : ℕ). n * c.args.period + length e.run) full ∙ e.counted in (
      omega (arith, c.saturating_mul-count.ensures, counted, ap length from, no_longer c.args.period cs c.requires.least, ap length text),
      ap (last_start 0) from ∙ e.last,
      omega (arith, ap length from, e.few),
    )

pub loop-preserved : goal.loop-preserved
loop-preserved c cs h some text above =
    let l = c.loop in
    let kept = l.invariant cs h some text above in
    let step = c.in-Some.ensures.steps in (
      omega (arith, kept.0, ap length step, c.saturating_add-count.ensures, no_longer c.args.period cs c.requires.least, ap length text),
      ap (λ (xs : List Checkpoint). last_start l.start xs) (sym step) ∙ kept.1,
      omega (arith, ap length step, kept.2),
    )
