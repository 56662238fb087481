use Rattle.store_reader.proofs.StoreSliceLemmas.{seen_laid}
use Rattle.store_reader.proofs.store_slice.StoreSlice.version.Goals as goal

pub returns : goal.returns
returns c s = let laid_out = seen_laid _ _ _ _ _ c.self.view_is c.self.invariant in (laid_out s).version_is
