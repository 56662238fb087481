use Rattle.layered_index.proofs.LineLemmas.{next_in_line}
use Rattle.tantivy_export.proofs.period.index_over.Goals as goal

pub insert-requires : goal.insert-requires
insert-requires c = next_in_line _ _ _ _ _ c.loop-checkpoint.invariant.all c.in-Some.ensures.steps c.requires.in_line
