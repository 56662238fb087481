use Rattle.std.proofs.Common.{sym, ◌∙◌, ap}
use Rattle.store_format.specs.StoreFile.{docs_in}
use Rattle.docstore.specs.BlockOutput.{BlockOutput}
use Rattle.docstore.proofs.OutputLemmas.{docs_seen}
use Rattle.docstore.proofs.store_compressor.BlockCompressor.num_docs.Goals as goal

pub returns : goal.returns
returns g c = sym (docs_seen _ _ _ _ _ _ c.self.invariant) ∙ ap (λ (out : BlockOutput). docs_in out.finished) c.self.view_is
