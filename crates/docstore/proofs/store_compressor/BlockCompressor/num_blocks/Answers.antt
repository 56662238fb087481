use Rattle.std.proofs.Common.{length, sym, ◌∙◌, ap, arith}
use Rattle.store_format.specs.StoreFile.{docs_in}
use Rattle.docstore.specs.BlockOutput.{BlockOutput}
use Rattle.docstore.proofs.OutputLemmas.{docs_seen, length-blocks_at}
use Rattle.docstore.proofs.store_compressor.BlockCompressor.num_blocks.Goals as goal

pub returns-clause-count : goal.returns-clause-count
returns-clause-count g c =
    c.num_blocks.ensures.count ∙ sym (length-blocks_at c.self.inside.index.checkpoints _) ∙ ap (λ (out : BlockOutput). length out.finished) c.self.view_is

pub returns-clause-few : goal.returns-clause-few
returns-clause-few g c =
    let docs = docs_seen _ _ _ _ _ _ c.self.invariant in
    omega (arith, c.num_blocks.ensures.few, c.self.invariant.ids, docs, ap (λ (out : BlockOutput). docs_in out.finished) c.self.view_is)
