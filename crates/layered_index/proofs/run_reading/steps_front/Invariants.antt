use Rattle.std.proofs.Common.{◌≡◌, ◌-◌}
use Rattle.layered_index.specs.BlockReading.{steps_at}
use Rattle.layered_index.proofs.FrontLemmas.{with_front}
use Rattle.layered_index.proofs.run_reading.steps_front.Given as goal

abbrev pub invariant-loop : goal.invariant-loop
invariant-loop l = with_front l.checkpoints.items (steps_at (l.fn.heading.count - l.counter) l.doc_end l.byte_end l.rest) ≡ steps_at l.fn.heading.count l.fn.heading.doc l.fn.heading.byte l.bytes
