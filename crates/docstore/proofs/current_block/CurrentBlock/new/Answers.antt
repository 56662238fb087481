use Rattle.std.proofs.Common.{arith}
use Rattle.docstore.proofs.PendingLemmas.{none_pending, documents_none}
use Rattle.docstore.proofs.current_block.CurrentBlock.new.Goals as goal

pub invariant_of-result : goal.invariant_of-result
invariant_of-result c = rw (c.new.ensures.items, c.new-2.ensures.items) (none_pending _ _ (omega arith) (omega arith))

pub returns : goal.returns
returns c = rw (c.new-2.ensures.items) (documents_none _)
