use Rattle.std.proofs.Common.{◌≡◌, ◌++◌, None, ◌∙◌, ap, subst, arith}
use Rattle.std.proofs.lemmas.Grind.{common_steps}
use Rattle.store_format.specs.StoreFile.{file}
use Rattle.docstore.specs.BlockOutput.{BlockOutput, IsCompressing}
use Rattle.docstore.proofs.OutputLemmas.{closed_file}
use Rattle.docstore.proofs.store_compressor.BlockCompressor.close.Goals as goal

pub returns-in-Ok-clause-file : goal.returns-in-Ok-clause-file
returns-in-Ok-clause-file g c =
    let none : c.self.inside.failure ≡ None = grind (arith, common_steps) in
    let content = g.W.TerminatingWrite.content c.self.inside.writer.output in
    let written = c.self.inside.writer.written in
    let period = c.self.inside.index.period in
    let cs = c.self.inside.index.checkpoints in
    let inv : IsCompressing period c.self.inside.first_doc_in_block cs content written None = subst (IsCompressing period c.self.inside.first_doc_in_block cs content written) none c.self.invariant in
    ap g.W.TerminatingWrite.content c.finish-in-Ok.ensures
    ∙ c.in-Ok.ensures.ok
    ∙ closed_file c.self.inside.compressor period c.self.inside.first_doc_in_block cs content written inv
    ∙ ap (λ (out : BlockOutput). out.before ++ file out.period 3 out.finished) c.self.view_is
