use Rattle.std.proofs.Common.{◌≡◌, ◌++◌, map}
use Rattle.layered_index.specs.Checkpoint.{byte_len}
use Rattle.store_commands.proofs.store_numbers.block_sizes.Given as goal

-- the sizes so far, and those of the checkpoints that are left
abbrev pub invariant-loop-checkpoint : goal.invariant-loop-checkpoint
invariant-loop-checkpoint g l = l.sizes.items ++ map byte_len l.checkpoint-iterator ≡ map byte_len l.reader.checkpoints
