use Rattle.std.proofs.Common.{sym, ◌∙◌}
use Rattle.std.specs.Prelude.{is_some}
use Rattle.layered_index.specs.Sought.{layers_left}
use Rattle.layered_index.proofs.CutLemmas.{cut_on, cut_ends, cut_done}
use Rattle.layered_index.proofs.check.is_cut.Goals as goal

pub returns-in_default : goal.returns-in_default
returns-in_default c =
    let l = c.loop in
    cut_ends c.args.count l.counter l.place l.ends_left.now l.texts_left.now (is_some (layers_left c.args.count 0 c.args.ends.now c.args.texts.now)) c.loop-test.true
    (sym c.in_default.ensures) l.invariant

pub loop-preserved : goal.loop-preserved
loop-preserved c =
    let l = c.loop in
    cut_on c.args.count l.counter l.place l.ends_left.now l.texts_left.now c.in-Some.field-0-0.now c.in-Some.end c.in-Some.more_ends.now c.in-Some.more.now
    (is_some (layers_left c.args.count 0 c.args.ends.now c.args.texts.now)) c.loop-test.true (sym c.in-Some.ensures) l.invariant

pub returns : goal.returns
returns c =
    let l = c.loop in
    c.is_empty.ensures ∙ cut_done c.args.count l.counter l.place l.ends_left.now l.texts_left.now (is_some (layers_left c.args.count 0 c.args.ends.now c.args.texts.now)) c.loop-test.false l.invariant
