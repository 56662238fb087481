use Rattle.std.proofs.Common.{rules, ◌≡◌, ◌++◌, ◌∷◌, [], sym}
use Rattle.layered_index.specs.BlockReading.{steps_at}
use Rattle.layered_index.proofs.StepLemmas.{goes_on, ends, is_done}
use Rattle.layered_index.proofs.run_reading.steps_front.Goals as goal

pub returns-in_default : goal.returns-in_default
returns-in_default c =
    ends c.loop.checkpoints.items c.args.heading.count c.loop.counter c.loop.doc_end c.loop.byte_end c.loop.rest.now
    (steps_at c.args.heading.count c.args.heading.doc c.args.heading.byte c.args.bytes.now) c.loop-test.true (search rules) c.loop.invariant

pub loop-preserved : goal.loop-preserved
loop-preserved c =
    let e : c.push.new.self.items ≡ c.loop.checkpoints.items ++ c.in-Some.checkpoint ∷ [] = c.in_ok-push.ensures.items in
    rw e (goes_on c.loop.checkpoints.items c.args.heading.count c.loop.counter c.loop.doc_end c.loop.byte_end c.loop.rest.now c.in-Some.checkpoint c.in-Some.after.now
    (steps_at c.args.heading.count c.args.heading.doc c.args.heading.byte c.args.bytes.now) c.loop-test.true (sym c.in-Some.ensures) c.loop.invariant)

pub returns : goal.returns
returns c = is_done c.loop.checkpoints.items c.args.heading.count c.loop.counter c.loop.doc_end c.loop.byte_end c.loop.rest.now
    (steps_at c.args.heading.count c.args.heading.doc c.args.heading.byte c.args.bytes.now) c.loop-test.false c.loop.invariant
