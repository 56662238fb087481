use Rattle.std.proofs.lemmas.Result.{err_from_is_err_and}
use Rattle.store_c.proofs.GettingLemmas.{block_refused}
use Rattle.store_c.proofs.getting.place_of.Goals as goal

pub returns-in_err-block : goal.returns-in_err-block
returns-in_err-block c =
    let given = err_from_is_err_and c.from_residual.result c.from_residual.ensures.1 in
    rw (given.1, given.2) (block_refused c.args.store.now c.args.doc_id _ c.in_err-block.ensures.refused c.in_err-block.ensures.block)

pub returns : goal.returns
returns c =
    c.place_in.ensures c.args.store.now (record { within = c.in_ok-block.ensures.within; stored = c.in_ok-block.ensures.block })
