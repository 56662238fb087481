use Rattle.std.proofs.Common.{◌≢◌, All, take, subst, arith}
use Rattle.document_framing.proofs.PieceLemmas.{none_before}
use Rattle.document_framing.proofs.pieces.len_through.Goals as goal

pub returns-in-Some-clause-before : goal.returns-in-Some-clause-before
returns-in-Some-clause-before c =
    subst (λ k. All (λ x. x ≢ c.args.end) (take k c.args.bytes.now)) (omega arith)
    (none_before c.args.bytes.now c.args.end c.in-Some.place c.in-Some.ensures.0.before (omega (arith, c.in-Some.ensures.0.high)))
