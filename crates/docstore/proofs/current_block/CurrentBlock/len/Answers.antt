use Rattle.std.proofs.Common.{length, ap, arith}
use Rattle.docstore.proofs.PendingLemmas.{length-documents_at}
use Rattle.docstore.proofs.current_block.CurrentBlock.len.Goals as goal

pub returns : goal.returns
returns c = omega (arith, ap length c.self.view_is, length-documents_at c.self.inside.starts.items c.self.inside.bytes.items)
