use Rattle.std.proofs.Common.{◌≡◌, ◌≤◌, ◌-◌, ◌+◌, length}
use Rattle.layered_index.specs.BlockReading.{steps_at, ends_of}
use Rattle.layered_index.specs.LayerReading.{items}
use Rattle.layered_index.specs.Tallies.{kept}
use Rattle.layered_index.proofs.layers.keep_steps.Given as goal

-- what is still read, and the checkpoints that are kept and to come, each of which takes a byte
abbrev pub invariant-loop : goal.invariant-loop
invariant-loop l = record {
  read : ends_of l.doc_end l.byte_end (steps_at (l.fn.heading.count - l.counter) l.doc_end l.byte_end l.rest)
      ≡ ends_of l.fn.heading.doc l.fn.heading.byte (steps_at l.fn.heading.count l.fn.heading.doc l.fn.heading.byte l.bytes);
  kept : kept (l.tally, l.rows) (items (l.fn.heading.count - l.counter) l.doc_end l.byte_end l.rest)
      ≡ kept (l.initial.tally, l.initial.rows) (items l.fn.heading.count l.fn.heading.doc l.fn.heading.byte l.bytes);
  few : l.tally.count + length l.rest ≤ l.initial.tally.count + length l.bytes;
}
