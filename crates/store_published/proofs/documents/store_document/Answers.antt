use Rattle.std.proofs.Common.{◌≡◌, refl, ◌∙◌, ap}
use Rattle.std.specs.Prelude.{Bool, true, false, if◌then◌else◌}
use Rattle.std.proofs.lemmas.Result.{on_ok_weaker}
use Rattle.docstore.specs.Writer.{Writing, flushed}
use Rattle.store_published.proofs.documents.store_document.Goals as goal

size_kept : (w : Writing) (full : Bool) → (if full then flushed w else w).block_size ≡ w.block_size
size_kept w true = refl
size_kept w false = refl

pub returns-clause-size : goal.returns-clause-size
returns-clause-size g c = on_ok_weaker c.store_bytes.result (λ stored. ap (λ w. w.block_size) stored ∙ size_kept _ _) c.store_bytes.ensures.stored
