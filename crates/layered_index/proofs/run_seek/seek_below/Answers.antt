use Rattle.std.proofs.Common.{Option, Some, sym, ap, ◌∙◌, arith}
use Rattle.layered_index.specs.declared.checkpoint.Checkpoint.{Checkpoint}
use Rattle.layered_index.proofs.SoughtLemmas.{below_sought}
use Rattle.layered_index.proofs.run_seek.seek_below.Goals as goal
use Rattle.layered_index.proofs.run_seek.seek_below.Goals.{then-end-start-via-then-end-start, then-end-start-via-else-end-start+then-layer-end}

pub returns-then-end-start-clause-answer : goal.returns-then-end-start-clause-answer
returns-then-end-start-clause-answer c cs h text above =
    let is = below_sought c.args.period c.args.target c.args.layer.now c.args.pointer.now cs c.requires.least c.requires.most h text above in
    elim c.then-end-start.branch [
      | then-end-start-via-then-end-start w ↦ absurd (omega (arith, is.order))
      | then-end-start-via-else-end-start+then-layer-end w ↦ absurd (omega (arith, is.within))
    ]

pub returns-clause-answer : goal.returns-clause-answer
returns-clause-answer c cs h text above =
    let is = below_sought c.args.period c.args.target c.args.layer.now c.args.pointer.now cs c.requires.least c.requires.most h text above in
    c.seek_pointed.ensures.answer is.run is.is_run ∙ ap (λ (o : Option Checkpoint). Some o) (sym is.first)
