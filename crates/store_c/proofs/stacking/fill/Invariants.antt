use Rattle.std.proofs.Common.{◌≡◌, List, ◌++◌, length, map, take}
use Rattle.layered_index.specs.declared.checkpoint.Checkpoint.{Checkpoint}
use Rattle.layered_index.specs.Rows.{ends_in}
use Rattle.store_c.specs.Writing.{ends_after}
use Rattle.store_c.proofs.stacking.fill.Given as goal

-- what was written, with what is left, is all
abbrev pub invariant-loop-checkpoint : goal.invariant-loop-checkpoint
invariant-loop-checkpoint l = (done : List Checkpoint) × (done ++ l.checkpoint-iterator ≡ l.fn.checkpoints) × (l.count ≡ length done)
    × (take l.count (ends_in l.table) ≡ map (ends_after l.fn.start) done) × (length l.table ≡ length l.fn.table)
