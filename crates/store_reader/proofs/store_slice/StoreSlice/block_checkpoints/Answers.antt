use Rattle.store_format.specs.StoreFile.{checkpoints_of}
use Rattle.store_reader.proofs.StoreSliceLemmas.{seen_laid, stored_index}
use Rattle.store_reader.proofs.store_slice.StoreSlice.block_checkpoints.Goals as goal

pub returns-clause-store : goal.returns-clause-store
returns-clause-store c s =
    let laid_out = seen_laid _ _ _ _ _ c.self.view_is c.self.invariant in
    c.checkpoints.ensures.answer (checkpoints_of s.blocks) (stored_index _ _ _ _ s (laid_out s))
