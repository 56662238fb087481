use Rattle.std.proofs.Common.{◌≡◌, ◌≤◌, ◌++◌, length}
use Rattle.tantivy_export.proofs.period.index_over.Given as goal

-- what was inserted, with what is left, is all
abbrev pub invariant-loop-checkpoint : goal.invariant-loop-checkpoint
invariant-loop-checkpoint l = record {
  all : l.index.checkpoints ++ l.checkpoint-iterator ≡ l.fn.checkpoints;
  period : l.index.period ≡ 8;
  left : length l.checkpoint-iterator ≤ length l.fn.checkpoints;
}
