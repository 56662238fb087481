use Rattle.std.proofs.lemmas.Result.{err_from_is_err_and}
use Rattle.store_c.proofs.locating.place_of.Goals as goal

pub returns-in_err-block : goal.returns-in_err-block
returns-in_err-block c =
    let given = err_from_is_err_and c.from_residual.result c.from_residual.ensures.1 in
    rw (given.1, given.2) c.in_err-block.ensures.block

pub returns : goal.returns
returns c = c.place_in.ensures c.args.table.now c.in_ok-block.ensures.block
