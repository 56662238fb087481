use Rattle.std.proofs.lemmas.Result.{err_from_is_err_and}
use Rattle.store_reader.proofs.StoreSliceLemmas.{refused_is}
use Rattle.store_reader.proofs.store_head.StoreHead.locate.Goals as goal

pub returns-in_err-block_of-clause-document : goal.returns-in_err-block_of-clause-document
returns-in_err-block_of-clause-document c s is =
    let given = err_from_is_err_and c.from_residual.result c.from_residual.ensures.1 in
    rw (given.1, given.2) (refused_is c.args.file.now s c.args.doc_id _ (c.in_err-block_of.ensures.block s is))

pub returns-clause-document : goal.returns-clause-document
returns-clause-document c s is =
    let has = c.in_ok-block_of.ensures.has in
    c.locate.ensures.document c.args.file.now s (c.in_ok-block_of.ensures.block s is c.args.doc_id has.0 has.1)
