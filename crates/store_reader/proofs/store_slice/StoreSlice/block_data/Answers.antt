use Rattle.std.proofs.Common.{◌∙◌}
use Rattle.std.specs.Prelude.{slice_range}
use Rattle.store_reader.proofs.StoreSliceLemmas.{seen_laid}
use Rattle.store_reader.proofs.RefusedLemmas.{parts_of}
use Rattle.store_reader.proofs.store_slice.StoreSlice.block_data.Goals as goal

pub returns-clause-data : goal.returns-clause-data
returns-clause-data c s =
    let laid_out = seen_laid _ _ _ _ _ c.self.view_is c.self.invariant in
    c.part.ensures ∙ (λ i. slice_range (c.self.view_is i) 0 ((laid_out s).data_is i)) ∙ (parts_of _ s).front
