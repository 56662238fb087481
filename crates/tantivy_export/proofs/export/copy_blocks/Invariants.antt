use Rattle.std.proofs.Common.{◌-◌, length}
use Rattle.tantivy_export.proofs.ExportLemmas.{HasCopied}
use Rattle.tantivy_export.proofs.export.copy_blocks.Given as goal

abbrev pub invariant-loop-part : goal.invariant-loop-part
invariant-loop-part g l =
    let W = g.W.TerminatingWrite in
    HasCopied l.part_bytes l.next_block l.fn.reader l.reader (record { content = W.content l.fn.output; termination = W.termination l.fn.output; failures = W.failures l.fn.output })
    (record { content = W.content l.output; termination = W.termination l.output; failures = W.failures l.output })

abbrev pub decreases-loop-part : goal.decreases-loop-part
decreases-loop-part g l = length l.fn.reader.checkpoints - l.next_block
