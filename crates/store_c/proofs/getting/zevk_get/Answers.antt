use Rattle.std.proofs.Common.{sym, ◌∙◌, subst, arith}
use Rattle.store_c.proofs.FirstRefusalLemmas.{by_six, by_seven, head_first, no_index_in, place_is_given}
use Rattle.store_c.proofs.GettingLemmas.{moved, moved_place, by_other}
use Rattle.store_c.specs.Getting.{RefusesUnopened}
use Rattle.store_c.proofs.getting.zevk_get.Goals as goal

pub returns-in-Err-clause-no_document : goal.returns-in-Err-clause-no_document
returns-in-Err-clause-no_document c s = absurd (c.in-Err.ensures.refused s)

pub returns-in-Err-clause-damaged : goal.returns-in-Err-clause-damaged
returns-in-Err-clause-damaged c s = absurd (c.in-Err.ensures.refused s)

pub returns-in-Err-clause-head : goal.returns-in-Err-clause-head
returns-in-Err-clause-head c number head = c.number.ensures ∙ head_first c.args.file.now number c.in-Err.error head c.in-Err.ensures.found c.in-Err.ensures.causes

pub returns-in-Ok-place_of-clause-no_document : goal.returns-in-Ok-place_of-clause-no_document
returns-in-Ok-place_of-clause-no_document c s =
    let place = moved_place c.in-Ok.store c.args.file.now c.args.doc_id c.in-Ok-place_of.found c.in-Ok.ensures.ok c.in-Ok-place_of.ensures in
    (λ six. absurd (omega (arith, six)), λ is. absurd (place_is_given _ _ _ _ place s is))

pub returns-in-Ok-place_of-clause-damaged : goal.returns-in-Ok-place_of-clause-damaged
returns-in-Ok-place_of-clause-damaged c s =
    let place = moved_place c.in-Ok.store c.args.file.now c.args.doc_id c.in-Ok-place_of.found c.in-Ok.ensures.ok c.in-Ok-place_of.ensures in
    (λ seven. absurd (omega (arith, seven)), λ is. absurd (place_is_given _ _ _ _ place s is))

pub returns-in-Ok-place_of-clause-head : goal.returns-in-Ok-place_of-clause-head
returns-in-Ok-place_of-clause-head c number head = absurd (no_index_in _ c.args.file.now number head c.in-Ok.ensures.index)

pub returns-in-Err-place_of-clause-no_document : goal.returns-in-Err-place_of-clause-no_document
returns-in-Err-place_of-clause-no_document c =
    by_six c.args.file.now c.args.doc_id _ _ c.number-in-Err-place_of.ensures (moved c.in-Ok.store c.args.file.now c.args.doc_id c.in-Err-place_of.error c.in-Ok.ensures.ok c.in-Err-place_of.ensures)

pub returns-in-Err-place_of-clause-damaged : goal.returns-in-Err-place_of-clause-damaged
returns-in-Err-place_of-clause-damaged c =
    by_seven c.args.file.now c.args.doc_id _ _ c.number-in-Err-place_of.ensures (moved c.in-Ok.store c.args.file.now c.args.doc_id c.in-Err-place_of.error c.in-Ok.ensures.ok c.in-Err-place_of.ensures)

pub returns-in-Err-place_of-clause-no_store : goal.returns-in-Err-place_of-clause-no_store
returns-in-Err-place_of-clause-no_store c none six seven =
    let refused = moved c.in-Ok.store c.args.file.now c.args.doc_id c.in-Err-place_of.error c.in-Ok.ensures.ok c.in-Err-place_of.ensures in
    let number = c.number-in-Err-place_of.ensures in
    subst (RefusesUnopened c.args.file.now) (sym number) (by_other _ _ _ refused (λ e. six (number ∙ e)) (λ e. seven (number ∙ e)))

pub returns-in-Err-place_of-clause-head : goal.returns-in-Err-place_of-clause-head
returns-in-Err-place_of-clause-head c number head = absurd (no_index_in _ c.args.file.now number head c.in-Ok.ensures.index)
