use Rattle.std.proofs.Common.{◌∙◌}
use Rattle.store_reader.proofs.StoreSliceLemmas.{seen_laid}
use Rattle.store_reader.proofs.store_slice.StoreSlice.period.Goals as goal

pub returns-clause-period : goal.returns-clause-period
returns-clause-period c s =
    let laid_out = seen_laid _ _ _ _ _ c.self.view_is c.self.invariant in
    c.period.ensures.period ∙ (laid_out s).period_is
