use Rattle.std.proofs.Common.{arith}
use Rattle.store_c.proofs.LocatingLemmas.{none_refused, damage_refused, placed_not_none, placed_not_damaged}
use Rattle.store_c.proofs.reading.zevk_locate.Goals as goal

pub returns-in-Ok-clause-no_document : goal.returns-in-Ok-clause-no_document
returns-in-Ok-clause-no_document c known =
    (λ e. absurd (omega (arith, e)), λ x. absurd (placed_not_none c.args.file.now c.args.table.now c.args.doc_id known c.in-Ok.found c.in-Ok.ensures x))

pub returns-in-Ok-clause-damaged : goal.returns-in-Ok-clause-damaged
returns-in-Ok-clause-damaged c known =
    (λ e. absurd (omega (arith, e)), λ x. absurd (placed_not_damaged c.args.file.now c.args.table.now c.args.doc_id known c.in-Ok.found c.in-Ok.ensures x))

pub returns-in-Err-clause-no_document : goal.returns-in-Err-clause-no_document
returns-in-Err-clause-no_document c known = none_refused c.args.file.now c.args.table.now c.args.doc_id known c.in-Err.refusal _ c.number.ensures c.in-Err.ensures

pub returns-in-Err-clause-damaged : goal.returns-in-Err-clause-damaged
returns-in-Err-clause-damaged c known = damage_refused c.args.file.now c.args.table.now c.args.doc_id known c.in-Err.refusal _ c.number.ensures c.in-Err.ensures
