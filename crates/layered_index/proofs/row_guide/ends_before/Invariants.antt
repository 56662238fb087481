use Rattle.std.proofs.Common.{◌-◌, length}
use Rattle.layered_index.proofs.row_guide.ends_before.Given as goal

abbrev pub invariant-loop-count : goal.invariant-loop-count
invariant-loop-count l = Unit {0}

abbrev pub decreases-loop-count : goal.decreases-loop-count
decreases-loop-count l = length l.rows - l.count
