use Rattle.std.proofs.Common.{◌∙◌, sym, ap, subst}
use Rattle.std.specs.Prelude.{IsTrue, option_and_then}
use Rattle.framed_logs.proofs.PrintLemmas.{prints_nothing, prints_unknown}
use Rattle.framed_logs.proofs.number_lines.NumberLines.print.Goals as goal

pub returns-then-is_some : goal.returns-then-is_some
returns-then-is_some g c =
    prints_nothing c.args.self.now _ (subst (λ v. IsTrue v.failed) c.self.view_is (sym c.is_some.ensures ∙ c.if-is_some.true))

pub returns-in_default : goal.returns-in_default
returns-in_default g c =
    prints_unknown c.args.self.now _ _ c.self.view_is (ap (option_and_then g.W.Write.contents) c.in_default.is)
    (sym c.is_some.ensures ∙ c.if-is_some.false)
