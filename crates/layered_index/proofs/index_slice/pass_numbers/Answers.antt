use Rattle.std.proofs.Common.{sym}
use Rattle.layered_index.specs.Sought.{after_numbers}
use Rattle.layered_index.proofs.IndexHeadLemmas.{pass_more, pass_ends, pass_done}
use Rattle.layered_index.proofs.index_slice.pass_numbers.Goals as goal

pub returns-in_err-after : goal.returns-in_err-after
returns-in_err-after c =
    rw c.from_residual.ensures (sym (pass_ends c.args.count c.loop.counter c.loop.rest.now (after_numbers c.args.count c.args.bytes.now) c.loop-test.true
    (sym c.in_err-after.ensures.read) c.loop.invariant))

pub loop-preserved : goal.loop-preserved
loop-preserved c = pass_more c.args.count c.loop.counter c.loop.rest.now c.in_ok-after.field-0-0 c.in_ok-after.after.now (after_numbers c.args.count c.args.bytes.now) c.loop-test.true
    (sym c.in_ok-after.ensures.read) c.loop.invariant

pub returns : goal.returns
returns c = sym (pass_done c.args.count c.loop.counter c.loop.rest.now (after_numbers c.args.count c.args.bytes.now) c.loop-test.false c.loop.invariant)
