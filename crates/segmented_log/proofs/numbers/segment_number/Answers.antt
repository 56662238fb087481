use Rattle.std.proofs.Common.{sym, ◌∙◌, ap}
use Rattle.std.specs.Prelude.{codes}
use Rattle.std.proofs.lemmas.List.{append_cancel_right}
use Rattle.segmented_log.specs.Names.{digits, segment_name}
use Rattle.segmented_log.proofs.numbers.segment_number.Goals as goal

pub returns-in_err-number-clause-none : goal.returns-in_err-number-clause-none
unfolding segment_name
returns-in_err-number-clause-none c =
    rw c.from_residual-in_err-number.ensures
    (λ n low same.
    let front = c.in_ok-front.front.now in
    let whole = sym c.in_ok-front.ensures.some ∙ c.as_bytes-bytes.ensures.value ∙ same in
    c.in_err-number.ensures.none n (append_cancel_right front (digits 20 n) (codes ".store") whole ∙ ap (λ k. digits k n) (sym c.if-front-ne20.false)))

pub returns-in_err-front-clause-none : goal.returns-in_err-front-clause-none
unfolding segment_name
returns-in_err-front-clause-none c = rw c.from_residual.ensures (λ n low same. c.in_err-front.ensures.none (digits 20 n) (c.as_bytes-bytes.ensures.value ∙ same))
