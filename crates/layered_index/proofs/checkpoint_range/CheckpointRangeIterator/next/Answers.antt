use Rattle.std.proofs.Common.{◌<◌, sym, ◌∙◌, arith}
use Rattle.layered_index.proofs.ListLemmas.{range_at}
use Rattle.layered_index.proofs.checkpoint_range.CheckpointRangeIterator.next.Goals as goal

pub returns-clause-steps : goal.returns-clause-steps
returns-clause-steps c =
    let s = c.self.inside in
    let left : s.next < s.end = omega arith in
    sym c.self.view_is ∙ range_at s.index.now.checkpoints s.next s.end c.at-checkpoint.result left c.at-checkpoint.ensures
