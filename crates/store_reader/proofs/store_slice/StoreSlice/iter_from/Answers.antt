use Rattle.std.proofs.lemmas.Result.{err_from_is_err_and}
use Rattle.store_reader.proofs.StoreSliceLemmas.{none_stored}
use Rattle.store_reader.proofs.AmidLemmas.{amid_in}
use Rattle.store_reader.proofs.store_slice.StoreSlice.iter_from.Goals as goal

pub returns-in_err-block-clause-amid : goal.returns-in_err-block-clause-amid
returns-in_err-block-clause-amid c s =
    let given = err_from_is_err_and c.from_residual.result c.from_residual.ensures.1 in
    let refused = c.in_err-block.ensures.block s in
    rw (given.1, given.2) (refused.0, none_stored _ s c.args.doc_id refused.1)

pub returns-clause-amid : goal.returns-clause-amid
returns-clause-amid c s =
    let e = c.in_ok-block.ensures in
    amid_in _ s c.args.doc_id c.in_ok-block.block c.in_ok-block.blocks (e.left s) e.next.1 e.has.0 e.has.1 (e.block s)
