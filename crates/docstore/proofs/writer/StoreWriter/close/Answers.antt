use Rattle.std.proofs.Common.{◌≡◌, ◌<◌, ◌≤◌, List, length, None, sym, ◌∙◌, ap, arith}
use Rattle.std.proofs.lemmas.Grind.{common_steps}
use Rattle.store_format.specs.StoreFile.{StoreBlock}
use Rattle.docstore.specs.Writer.{Writing, blocks_of}
use Rattle.docstore.specs.BlockOutput.{BlockOutput, with_blocks, with_risen, AfterClose}
use Rattle.docstore.proofs.WriterLemmas.{closed_after, some_flushed}
use Rattle.docstore.proofs.writer.StoreWriter.close.Goals as goal

pub returns-in-Err-clause-err : goal.returns-in-Err-clause-err
returns-in-Err-clause-err g c =
    let docs = c.self.inside.current_block in
    let bs : List StoreBlock = blocks_of docs in
    let old = c.args.self.output in
    let mid = c.flush.new.output in
    let old_is : c.self.inside.block_compressor ≡ old = ap (λ (w : Writing). w.output) c.self.view_is in
    let inner : c.self.inside.block_compressor.failure ≡ None = grind (arith, common_steps) in
    let none : old.failure ≡ None = sym (ap (λ (out : BlockOutput). out.failure) old_is) ∙ inner in
    let mid_is : mid ≡ with_risen mid.failures (with_blocks c.self.inside.block_compressor bs) = grind (arith, common_steps) in
    let le : old.failures ≤ mid.failures = omega (arith, ap (λ (out : BlockOutput). out.failures) old_is, c.flush.ensures.count) in
    let pending : 0 < length docs = omega arith in
    let h : AfterClose c.in-Err.refusal.error mid (g.W.TerminatingWrite.content c.in-Err.refusal.output) (g.W.TerminatingWrite.termination c.in-Err.refusal.output)
    (g.W.TerminatingWrite.failures c.in-Err.refusal.output) = c.in-Err.ensures.err in
    rw (c.after_bytes.ensures.error, c.after_bytes.ensures.output)
    (closed_after c.in-Err.refusal.error old mid bs (g.W.TerminatingWrite.content c.in-Err.refusal.output) (g.W.TerminatingWrite.termination c.in-Err.refusal.output)
    (g.W.TerminatingWrite.failures c.in-Err.refusal.output)
    (mid_is ∙ ap (λ (out : BlockOutput). with_risen mid.failures (with_blocks out bs)) old_is) le none (some_flushed docs pending) h)
