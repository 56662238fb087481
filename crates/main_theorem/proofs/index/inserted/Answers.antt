use Rattle.std.proofs.Common.{ap}
use Rattle.layered_index.specs.Layers.{Index}
use Rattle.main_theorem.proofs.IndexLemmas.{take_next_in_line, index_took}
use Rattle.main_theorem.proofs.index.inserted.Goals as goal

pub insert-requires : goal.insert-requires
insert-requires c =
    take_next_in_line _ _ _ _ (ap (λ (index : Index). index.checkpoints) c.loop-i.invariant) c.get.ensures c.requires.in_line

pub loop-i-preserved : goal.loop-i-preserved
loop-i-preserved c = index_took _ _ _ _ _ _ c.get.ensures c.loop-i.invariant c.in_ok-insert.ensures.ok
