use Rattle.std.proofs.Common.{arith}
use Rattle.docstore.proofs.PendingLemmas.{none_pending, documents_none}
use Rattle.docstore.proofs.current_block.FinishedBlock.into_empty.Goals as goal

pub invariant_of-result : goal.invariant_of-result
invariant_of-result c = rw (c.clear-2.ensures.items, c.clear.ensures.items) (none_pending _ _ c.self.invariant.small
    (omega (arith, c.self.invariant.room, c.clear.ensures.capacity)))

pub returns : goal.returns
returns c = rw c.clear-2.ensures.items (documents_none _)
