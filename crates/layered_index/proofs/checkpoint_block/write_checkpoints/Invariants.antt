use Rattle.std.proofs.Common.{◌≡◌, ◌++◌, length, take}
use Rattle.std.specs.List.{flat_map}
use Rattle.store_base.specs.VInt.{number}
use Rattle.layered_index.specs.Checkpoint.{starts, step}
use Rattle.layered_index.proofs.checkpoint_block.write_checkpoints.Given as goal

-- what stands before the steps is written, and the steps so far
abbrev pub invariant-loop-checkpoint : goal.invariant-loop-checkpoint
invariant-loop-checkpoint l =
    l.output.items ≡ l.fn.output.items ++ (number (length l.checkpoints) ++ starts l.checkpoints ++ flat_map step (take l.checkpoint-index l.checkpoints))
