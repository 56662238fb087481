use Rattle.std.proofs.Common.{ap, arith}
use Rattle.docstore.specs.Trace.{weight}
use Rattle.docstore.proofs.PendingLemmas.{weight-pending}
use Rattle.docstore.proofs.current_block.CurrentBlock.weight.Goals as goal

pub returns : goal.returns
returns c = omega (arith, ap weight c.self.view_is, weight-pending c.self.inside.starts.items c.self.inside.bytes.items _ _ c.self.invariant)
