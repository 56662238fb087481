use Rattle.std.proofs.Common.{◌≡◌, ◌<◌, ◌+◌, ◌^◌, ℕ, length}
use Rattle.std.specs.Prelude.{◌↔◌}
use Rattle.layered_index.specs.LayerReading.{items, len_from, pointers_at, ArePointers}
use Rattle.layered_index.specs.Tallies.{kept}
use Rattle.layered_index.specs.Faults.{standing_from, PassedTo}
use Rattle.layered_index.proofs.WalkLemmas.{Counts}
use Rattle.layered_index.proofs.layers.walk_runs.Given as goal

-- what is left is read, pointed to and kept exactly if all is
abbrev pub invariant-loop-rest : goal.invariant-loop-rest
invariant-loop-rest l = record {
  counted : Counts l.period l.doc_end l.byte_end l.rest (len_from l.period l.fn.heading.doc l.fn.heading.byte l.text);
  pointed : ArePointers l.above (pointers_at l.place l.rest) ↔ ArePointers l.fn.above (pointers_at 0 l.text);
  passed : (byte : ℕ) → PassedTo l.above (standing_from l.period l.doc_end l.byte_end l.place l.rest) l.place byte
      → PassedTo l.fn.above (standing_from l.period l.fn.heading.doc l.fn.heading.byte 0 l.text) 0 byte;
  places : l.place + length l.rest ≡ length l.text;
  few : l.tally.count + length l.rest < 2 ^ 64;
  kept : kept (l.tally, l.rows) (items 0 0 0 l.rest) ≡ kept (l.initial.tally, l.initial.rows) (items 0 0 0 l.text);
}

abbrev pub decreases-loop-rest : goal.decreases-loop-rest
decreases-loop-rest l = length l.rest
