use Rattle.std.proofs.Common.{◌≡◌, ◌-◌, ◌<◌, ◌≤◌, List, length}
use Rattle.layered_index.specs.declared.checkpoint.Checkpoint.{Checkpoint}
use Rattle.layered_index.specs.Checkpoint.{docs_end, IsInLine, checkpoint_block}
use Rattle.layered_index.proofs.OuterLayersLemmas.{AreSteps}
use Rattle.layered_index.proofs.index_slice.block_docs_end.Given as goal

-- what is left are the last steps of the block
abbrev pub invariant-loop : goal.invariant-loop
invariant-loop l = (cs : List Checkpoint) → IsInLine cs → 0 < length cs → length cs ≤ l.most → l.bytes ≡ checkpoint_block cs
    → AreSteps l.doc_end l.byte_end (l.end - l.counter) l.rest (docs_end 0 cs)
