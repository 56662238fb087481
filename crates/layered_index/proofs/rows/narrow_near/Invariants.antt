use Rattle.std.proofs.Common.{◌≤◌, ◌+◌, ◌-◌, List, length}
use Rattle.layered_index.specs.declared.checkpoint.Checkpoint.{Checkpoint}
use Rattle.layered_index.specs.Checkpoint.{IsInLineFrom}
use Rattle.layered_index.specs.Layers.{digit_count}
use Rattle.layered_index.specs.Seeking.{LiesBetween, looks_to_spare}
use Rattle.layered_index.specs.Rows.{AreRowsOf}
use Rattle.layered_index.proofs.rows.narrow_near.Given as goal

-- each look takes one of those to spare
abbrev pub invariant-loop-spare : goal.invariant-loop-spare
invariant-loop-spare l = record {
  order : l.low ≤ l.high;
  within : l.high ≤ length l.rows;
  between : (cs : List Checkpoint) → AreRowsOf cs l.rows → IsInLineFrom 0 0 cs → LiesBetween cs l.target l.low l.high;
  most : l.looks + digit_count 2 (l.high - l.low) + digit_count 4 l.spare ≤ digit_count 2 (length l.rows) + looks_to_spare (length l.rows);
}

abbrev pub decreases-loop-spare : goal.decreases-loop-spare
decreases-loop-spare l = l.high - l.low
