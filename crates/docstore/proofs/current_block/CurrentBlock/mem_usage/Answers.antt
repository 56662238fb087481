use Rattle.std.proofs.Common.{ℕ, List, length, ap, arith}
use Rattle.std.specs.List.{concat}
use Rattle.docstore.proofs.PendingLemmas.{length-documents_at, length-concat-pending}
use Rattle.docstore.proofs.current_block.CurrentBlock.mem_usage.Goals as goal

pub returns : goal.returns
returns c =
    omega (
      arith,
      ap length c.self.view_is,
      ap (λ (docs : List (List ℕ)). length (concat docs)) c.self.view_is,
      length-documents_at c.self.inside.starts.items c.self.inside.bytes.items,
      length-concat-pending c.self.inside.starts.items c.self.inside.bytes.items _ _ c.self.invariant,
    )
