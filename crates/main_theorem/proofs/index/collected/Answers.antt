use Rattle.layered_index.proofs.LineLemmas.{next_in_line}
use Rattle.main_theorem.proofs.index.collected.Goals as goal

pub push-requires : goal.push-requires
push-requires c = next_in_line _ _ _ _ _ c.loop-checkpoint.invariant c.in-Some.ensures.steps c.requires.in_line
