use Rattle.std.proofs.Common.{◌≡◌, ◌≤◌, List, ◌++◌, length, take, drop}
use Rattle.layered_index.specs.declared.checkpoint.Checkpoint.{Checkpoint}
use Rattle.layered_index.specs.Rows.{AreRowsOf}
use Rattle.layered_index.proofs.outline.fill.Given as goal

-- what was written, with what is left, is all, and the rows after it stay
abbrev pub invariant-loop-checkpoint : goal.invariant-loop-checkpoint
invariant-loop-checkpoint l = (done : List Checkpoint) × (done ++ l.checkpoint-iterator ≡ l.fn.checkpoints) × (l.count ≡ length done) × AreRowsOf done (take l.count l.rows)
    × (drop l.count l.rows ≡ drop l.count l.fn.rows) × (l.count ≤ length l.rows)
