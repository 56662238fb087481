use Rattle.std.proofs.Common.{◌≡◌, ◌∷◌, [], decimal, subst, ◌∙◌}
use Rattle.std.proofs.lemmas.Result.{on_err_weaker}
use Rattle.std.specs.Io.KnownBytes.{Appends}
use Rattle.framed_logs.specs.Printed.{AppendsFirst}
use Rattle.framed_logs.specs.Steps.{first_after, first_within}
use Rattle.framed_logs.proofs.PrintLemmas.{on_err}
use Rattle.framed_logs.proofs.writing.write_line.Goals as goal

pub returns-in_err-write_known-clause-first : goal.returns-in_err-write_known-clause-first
returns-in_err-write_known-clause-first g c =
    let e : c.as_bytes.result.now ≡ decimal c.args.number = c.as_bytes.ensures.value ∙ c.format-text.ensures.text in
    on_err c.from_residual.result _ (first_within (g.W.Write.contents c.args.output.now) (g.W.Write.contents c.write_known.new.output) (decimal c.args.number) (10 ∷ [])
    (subst (AppendsFirst (g.W.Write.contents c.args.output.now) (g.W.Write.contents c.write_known.new.output)) e c.in_err-write_known.ensures.first))

pub returns-clause-first : goal.returns-clause-first
returns-clause-first g c =
    let e : c.as_bytes.result.now ≡ decimal c.args.number = c.as_bytes.ensures.value ∙ c.format-text.ensures.text in
    let old = g.W.Write.contents c.args.output.now in let middle = g.W.Write.contents c.write_known.new.output in
    on_err_weaker c.write_known-2.result (first_after old middle (g.W.Write.contents c.write_known-2.new.output)
    (decimal c.args.number) (10 ∷ []) (subst (Appends old middle) e c.in_ok-write_known.ensures.all)) c.write_known-2.ensures.first
