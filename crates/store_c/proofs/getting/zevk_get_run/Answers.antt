use Rattle.std.proofs.Common.{sym, ◌∙◌, subst, arith}
use Rattle.store_c.proofs.FirstRefusalLemmas.{by_six, by_seven, head_first, no_index_in}
use Rattle.store_c.proofs.GettingLemmas.{moved, by_other}
use Rattle.store_c.specs.Getting.{RefusesUnopened}
use Rattle.store_c.proofs.getting.zevk_get_run.Goals as goal

pub returns-in-Some-clause-stops : goal.returns-in-Some-clause-stops
returns-in-Some-clause-stops c refused store =
    let next = rw c.in-Some.is at c.places_from-found.ensures.next in
    next.0

pub returns-in-Some-clause-no_document : goal.returns-in-Some-clause-no_document
returns-in-Some-clause-no_document c s =
    let next = rw c.in-Some.is at c.places_from-found.ensures.next in
    let by = by_six c.args.file.now _ _ _ c.number-in-Some.ensures (moved c.in-Ok.store c.args.file.now _ c.in-Some.error c.in-Ok.ensures.ok next.1) s in
    (λ six. (next.0, by.0 six), λ is. by.1 is.1)

pub returns-in-Some-clause-damaged : goal.returns-in-Some-clause-damaged
returns-in-Some-clause-damaged c s =
    let next = rw c.in-Some.is at c.places_from-found.ensures.next in
    let by = by_seven c.args.file.now _ _ _ c.number-in-Some.ensures (moved c.in-Ok.store c.args.file.now _ c.in-Some.error c.in-Ok.ensures.ok next.1) s in
    (λ seven. (next.0, by.0 seven), λ is. by.1 is.1)

pub returns-in-Some-clause-head : goal.returns-in-Some-clause-head
returns-in-Some-clause-head c number head = absurd (no_index_in _ c.args.file.now number head c.in-Ok.ensures.index)

pub returns-in-None-clause-head : goal.returns-in-None-clause-head
returns-in-None-clause-head c number head = absurd (no_index_in _ c.args.file.now number head c.in-Ok.ensures.index)

pub returns-in-None-clause-no_document : goal.returns-in-None-clause-no_document
returns-in-None-clause-no_document c s =
    let next = rw c.in-None.is at c.places_from-found.ensures.next in
    (λ six. absurd (omega (arith, six)), λ is. absurd (omega (arith, is.0, next)))

pub returns-in-None-clause-damaged : goal.returns-in-None-clause-damaged
returns-in-None-clause-damaged c s =
    let next = rw c.in-None.is at c.places_from-found.ensures.next in
    (λ seven. absurd (omega (arith, seven)), λ is. absurd (omega (arith, is.0, next)))

pub returns-in-Err-clause-no_document : goal.returns-in-Err-clause-no_document
returns-in-Err-clause-no_document c s = absurd (c.in-Err.ensures.refused s)

pub returns-in-Err-clause-damaged : goal.returns-in-Err-clause-damaged
returns-in-Err-clause-damaged c s = absurd (c.in-Err.ensures.refused s)

pub returns-in-Err-clause-head : goal.returns-in-Err-clause-head
returns-in-Err-clause-head c number head = c.number.ensures ∙ head_first c.args.file.now number c.in-Err.error head c.in-Err.ensures.found c.in-Err.ensures.causes

pub returns-in-Some-clause-no_store : goal.returns-in-Some-clause-no_store
returns-in-Some-clause-no_store c none six seven =
    let next = rw c.in-Some.is at c.places_from-found.ensures.next in
    let refused = moved c.in-Ok.store c.args.file.now _ c.in-Some.error c.in-Ok.ensures.ok next.1 in
    let number = c.number-in-Some.ensures in
    subst (RefusesUnopened c.args.file.now) (sym number) (by_other _ _ _ refused (λ e. six (number ∙ e)) (λ e. seven (number ∙ e)))
