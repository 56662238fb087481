use Rattle.std.proofs.Common.{sym, inl, inr}
use Rattle.std.proofs.lemmas.Result.{err_from_is_err_and}
use Rattle.store_c.proofs.GettingLemmas.{is_place}
use Rattle.store_c.proofs.getting.place_in.Goals as goal

pub returns-in_err-range : goal.returns-in_err-range
returns-in_err-range c file held =
    let given = err_from_is_err_and c.from_residual.result c.from_residual.ensures.1 in
    rw (given.1, given.2) (inr (inl c.in_err-range.ensures.refused), λ s. sym (c.in_err-range.ensures.document file s (held.stored s c.args.doc_id c.requires.from c.requires.to)))

pub returns : goal.returns
returns c file held =
    let r = c.in_ok-range in
    is_place file c.args.doc_id r.range.start r.range.end _ r.ensures.order r.ensures.within held.within
    (λ s. r.ensures.document file s (held.stored s c.args.doc_id c.requires.from c.requires.to))
