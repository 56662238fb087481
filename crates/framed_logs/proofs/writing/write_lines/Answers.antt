use Rattle.std.proofs.Common.{◌≡◌, ◌+◌, ◌-◌, ◌∷◌, [], ◌++◌, decimal, sym, subst, arith}
use Rattle.std.specs.Io.KnownBytes.{Appends}
use Rattle.framed_logs.specs.Printed.{AppendsFirst, number_lines}
use Rattle.framed_logs.specs.Steps.{first_after, first_within}
use Rattle.framed_logs.proofs.PrintLemmas.{lines_at, lines_next, on_err}
use Rattle.framed_logs.proofs.writing.write_lines.Goals as goal
use Rattle.std.proofs.KnownBytes.{Appends-trans}

pub returns-in_err-write_line-clause-first : goal.returns-in_err-write_line-clause-first
returns-in_err-write_line-clause-first g c =
    let old = g.W.Write.contents c.args.output.now in let new = g.W.Write.contents c.write_line.new.output in
    let number = c.loop-number.number in
    let e = lines_at c.args.from number c.args.to c.loop-number.auto.number c.loop-number-test.true in
    on_err c.from_residual.result _ (subst (AppendsFirst old new) (sym e)
    (first_after old (g.W.Write.contents c.loop-number.output) new (number_lines c.args.from (number - c.args.from)) _ c.loop-number.invariant.0
    (first_within _ new (decimal number ++ 10 ∷ []) (number_lines (number + 1) (c.args.to - number - 1)) c.in_err-write_line.ensures.first)))

pub loop-number-preserved : goal.loop-number-preserved
loop-number-preserved g c = (
  subst (Appends (g.W.Write.contents c.args.output.now) (g.W.Write.contents c.write_line.new.output))
      (sym (lines_next c.args.from c.loop-number.number c.loop-number.auto.number))
      (Appends-trans _ _ _ _ _ c.loop-number.invariant.0 c.in_ok-write_line.ensures.all),
  λ none. omega arith,
)

pub returns-clause-all : goal.returns-clause-all
returns-clause-all g c =
    let e : c.loop-number.number - c.args.from ≡ c.args.to - c.args.from = grind (arith, c.loop-number.invariant.1) in
    subst (λ n. Appends (g.W.Write.contents c.args.output.now) (g.W.Write.contents c.loop-number.output) (number_lines c.args.from n)) e c.loop-number.invariant.0
