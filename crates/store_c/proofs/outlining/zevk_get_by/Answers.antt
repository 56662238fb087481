use Rattle.std.proofs.Common.{ap, ◌∙◌, arith}
use Rattle.store_base.specs.Outcome.{number_of}
use Rattle.store_c.proofs.FirstRefusalLemmas.{six_is, seven_is}
use Rattle.store_c.proofs.GettingLemmas.{index_is}
use Rattle.store_c.proofs.OutliningLemmas.{place_by_is_given, no_other_by}
use Rattle.store_c.proofs.outlining.zevk_get_by.Goals as goal

pub returns-in-Ok-clause-no_document : goal.returns-in-Ok-clause-no_document
returns-in-Ok-clause-no_document c s outline = (λ six. absurd (omega (arith, six)), λ is. absurd (place_by_is_given _ _ _ _ _ _ c.in-Ok.ensures s outline is))

pub returns-in-Ok-clause-damaged : goal.returns-in-Ok-clause-damaged
returns-in-Ok-clause-damaged c s outline = (λ seven. absurd (omega (arith, seven)), λ is. absurd (place_by_is_given _ _ _ _ _ _ c.in-Ok.ensures s outline is))

pub returns-in-Err-clause-no_document : goal.returns-in-Err-clause-no_document
returns-in-Err-clause-no_document c s outline = six_is c.args.file.now c.args.doc_id _ c.in-Err.error c.number.ensures c.in-Err.ensures.0 s (c.in-Err.ensures.1 s outline)

pub returns-in-Err-clause-damaged : goal.returns-in-Err-clause-damaged
returns-in-Err-clause-damaged c s outline = seven_is c.args.file.now c.args.doc_id _ c.in-Err.error c.number.ensures c.in-Err.ensures.0 s (c.in-Err.ensures.1 s outline)

pub returns-in-Err-clause-no_other : goal.returns-in-Err-clause-no_other
returns-in-Err-clause-no_other c s outline some six =
    let number = c.number.ensures in
    number ∙ no_other_by c.args.file.now c.args.head.now c.args.rows.now c.args.doc_id c.in-Err.error c.in-Err.ensures s outline (λ e. six (number ∙ e))

pub returns-in-Err-clause-no_store : goal.returns-in-Err-clause-no_store
returns-in-Err-clause-no_store c none six seven =
    let number = c.number.ensures in
    number ∙ ap number_of (index_is c.args.doc_id c.in-Err.error c.in-Err.ensures.0 (λ e. six (number ∙ e)) (λ e. seven (number ∙ e)))
