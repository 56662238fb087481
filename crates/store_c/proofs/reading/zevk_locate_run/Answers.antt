use Rattle.std.proofs.Common.{arith}
use Rattle.store_c.proofs.LocatingLemmas.{none_refused, damage_refused}
use Rattle.store_c.proofs.reading.zevk_locate_run.Goals as goal

pub returns-in-Some-clause-stops : goal.returns-in-Some-clause-stops
returns-in-Some-clause-stops c other =
    let next = rw c.in-Some.is at c.places_from-found.ensures.next in
    next.0

pub returns-in-Some-clause-no_document : goal.returns-in-Some-clause-no_document
returns-in-Some-clause-no_document c known =
    let next = rw c.in-Some.is at c.places_from-found.ensures.next in
    let by = none_refused c.args.file.now c.args.table.now _ known c.in-Some.refusal _ c.number.ensures next.1 in
    (λ e. (next.0, by.0 e), λ x. by.1 x.1)

pub returns-in-Some-clause-damaged : goal.returns-in-Some-clause-damaged
returns-in-Some-clause-damaged c known =
    let next = rw c.in-Some.is at c.places_from-found.ensures.next in
    let by = damage_refused c.args.file.now c.args.table.now _ known c.in-Some.refusal _ c.number.ensures next.1 in
    (λ e. (next.0, by.0 e), λ x. by.1 x.1)

pub returns-in-None-clause-no_document : goal.returns-in-None-clause-no_document
returns-in-None-clause-no_document c known =
    let next = rw c.in-None.is at c.places_from-found.ensures.next in
    (λ e. absurd (omega (arith, e)), λ x. absurd (omega (arith, x.0, next)))

pub returns-in-None-clause-damaged : goal.returns-in-None-clause-damaged
returns-in-None-clause-damaged c known =
    let next = rw c.in-None.is at c.places_from-found.ensures.next in
    (λ e. absurd (omega (arith, e)), λ x. absurd (omega (arith, x.0, next)))
