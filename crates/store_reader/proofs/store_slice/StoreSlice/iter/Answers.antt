use Rattle.store_format.specs.StoreFile.{checkpoints_of}
use Rattle.store_reader.proofs.StoreSliceLemmas.{seen_laid, stored_index}
use Rattle.store_reader.proofs.BlocksLeftLemmas.{left_first}
use Rattle.store_reader.proofs.AmidLemmas.{amid_first}
use Rattle.std.proofs.Common.{◌∙◌}
use Rattle.store_reader.proofs.store_slice.StoreSlice.iter.Goals as goal

pub returns-clause-amid : goal.returns-clause-amid
returns-clause-amid c s =
    let laid_out = seen_laid _ _ _ _ _ c.self.view_is c.self.invariant in
    let laid = laid_out s in
    let e = c.new.ensures in
    let all = c.in_ok-checkpoints.ensures.answer (checkpoints_of s.blocks) (stored_index _ _ _ _ s laid) in
    let before = c.before_all.ensures in
    rw (before.first, before.end) (amid_first _ s _ _ (left_first _ s c.new.result (e.checkpoints ∙ all) e.next (e.bytes ∙ c.self.view_is) (e.data_len ∙ laid.data_is) e.well) e.next)

pub returns-in_err-checkpoints-clause-amid : goal.returns-in_err-checkpoints-clause-amid
returns-in_err-checkpoints-clause-amid c s =
    let laid_out = seen_laid _ _ _ _ _ c.self.view_is c.self.invariant in
    absurd (c.in_err-checkpoints.ensures.answer (checkpoints_of s.blocks) (stored_index _ _ _ _ s (laid_out s)))
