use Rattle.std.proofs.Common.{◌≡◌, ◌++◌}
use Rattle.main_theorem.proofs.index.collected.Given as goal

-- what was pushed, with what is left, is all
abbrev pub invariant-loop-checkpoint : goal.invariant-loop-checkpoint
invariant-loop-checkpoint l = l.block ++ l.checkpoint-iterator ≡ l.fn.checkpoints
