use Rattle.std.proofs.Common.{sym, subst}
use Rattle.layered_index.specs.Checkpoint.{IsInLine}
use Rattle.layered_index.proofs.LineLemmas.{in_line_take}
use Rattle.layered_index.proofs.checkpoint_block.CheckpointBlock.pop.Goals as goal

pub invariant_of-self : goal.invariant_of-self
invariant_of-self c = subst IsInLine (sym c.truncate.ensures.items) (in_line_take _ _ c.self.invariant)
