use Rattle.std.proofs.Common.{◌≤◌, ◌+◌, ◌-◌, List, length}
use Rattle.layered_index.specs.declared.checkpoint.Checkpoint.{Checkpoint}
use Rattle.layered_index.specs.Checkpoint.{IsInLineFrom}
use Rattle.layered_index.specs.Layers.{digit_count}
use Rattle.layered_index.specs.Seeking.{LiesBetween}
use Rattle.layered_index.specs.Rows.{AreRowsOf}
use Rattle.layered_index.proofs.rows.halve.Given as goal

-- if it lay between at first, it still does
abbrev pub invariant-loop-low : goal.invariant-loop-low
invariant-loop-low l = record {
  order : l.low ≤ l.high;
  within : l.high ≤ length l.rows;
  between : (cs : List Checkpoint) → AreRowsOf cs l.rows → IsInLineFrom 0 0 cs → LiesBetween cs l.target l.initial.low l.initial.high → LiesBetween cs l.target l.low l.high;
  most : l.looks + digit_count 2 (l.high - l.low) ≤ l.initial.looks + digit_count 2 (l.initial.high - l.initial.low);
}

abbrev pub decreases-loop-low : goal.decreases-loop-low
decreases-loop-low l = l.high - l.low
