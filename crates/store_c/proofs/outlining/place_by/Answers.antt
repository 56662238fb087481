use Rattle.std.proofs.Common.{sym}
use Rattle.std.proofs.lemmas.Result.{err_from_is_err_and}
use Rattle.store_c.proofs.OutliningLemmas.{is_place_by}
use Rattle.store_c.proofs.outlining.place_by.Goals as goal

pub returns-in_err-range : goal.returns-in_err-range
returns-in_err-range c =
    let given = err_from_is_err_and c.from_residual.result c.from_residual.ensures.1 in
    rw (given.1, given.2) (c.in_err-range.ensures.refused, λ s is. sym (c.in_err-range.ensures.document s is))

pub returns : goal.returns
returns c =
    let r = c.in_ok-range in
    is_place_by c.args.file.now c.args.head.now c.args.rows.now c.args.doc_id r.range.start r.range.end r.ensures.order r.ensures.within r.ensures.document
