use Rattle.std.proofs.Common.{sym, ◌∙◌, ap, arith}
use Rattle.layered_index.specs.Tallies.{kept}
use Rattle.layered_index.proofs.CursorLemmas.{items_heading, heading_shorter}
use Rattle.layered_index.proofs.layers.run_front.Goals as goal

pub returns-clause-kept : goal.returns-clause-kept
returns-clause-kept c = λ some. c.in_ok-doc_end.ensures.kept ∙ ap (kept (c.args.tally.now, c.args.rows.now))
    (sym (items_heading 0 0 c.args.bytes.now c.in_ok-heading.heading c.in_ok-heading.steps.now (sym c.in_ok-heading.ensures) some))

pub keep_steps-requires : goal.keep_steps-requires
keep_steps-requires c = omega (arith, c.requires, heading_shorter c.args.bytes.now (c.in_ok-heading.heading, c.in_ok-heading.steps.now) (sym c.in_ok-heading.ensures))

pub returns-clause-few : goal.returns-clause-few
returns-clause-few c = omega (arith, c.in_ok-doc_end.ensures.few, heading_shorter c.args.bytes.now (c.in_ok-heading.heading, c.in_ok-heading.steps.now) (sym c.in_ok-heading.ensures))
