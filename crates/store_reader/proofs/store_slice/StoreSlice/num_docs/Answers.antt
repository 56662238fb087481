use Rattle.std.proofs.Common.{ℕ, ap, ◌∙◌}
use Rattle.std.specs.Prelude.{Ok}
use Rattle.store_format.specs.StoreFile.{checkpoints_of}
use Rattle.store_reader.proofs.StoreSliceLemmas.{seen_laid, stored_index, count_stored}
use Rattle.store_reader.proofs.store_slice.StoreSlice.num_docs.Goals as goal

pub returns-clause-count : goal.returns-clause-count
returns-clause-count c s =
    let laid_out = seen_laid _ _ _ _ _ c.self.view_is c.self.invariant in
    c.docs_end.ensures.answer (checkpoints_of s.blocks) (stored_index _ _ _ _ s (laid_out s)) ∙ ap (λ (n : ℕ). Ok n) (count_stored _ s)
