use Rattle.std.proofs.Common.{sym, arith, subst}
use Rattle.std.specs.Prelude.{IsSome}
use Rattle.std.proofs.lemmas.Result.{err_from_is_err_and}
use Rattle.layered_index.proofs.LayerTextLemmas.{layer_none, layer_counted, layer_breaks_at, layer_breaks}
use Rattle.layered_index.proofs.layers.walk_layer.Goals as goal

pub returns-in_default : goal.returns-in_default
returns-in_default c = (
  λ good. layer_none c.args.period c.args.text.now (sym c.in_default.ensures) good.0,
  omega arith,
  layer_breaks c.args.period c.args.above c.args.text.now (sym c.in_default.ensures),
)

pub returns-in_err-walk_runs : goal.returns-in_err-walk_runs
returns-in_err-walk_runs c =
    let p = err_from_is_err_and c.from_residual.result c.from_residual.ensures.1 in
    let h = c.in-Some.heading in
    let head = sym c.in-Some.ensures in
    let same = layer_counted c.args.period c.args.text.now h c.in-Some.field-0-1.now head in
    let broken = c.in_err-walk_runs.ensures in
    rw (p.1, p.2) (
      λ good. broken.0 (subst IsSome same good.0, good.1),
      broken.1,
      layer_breaks_at c.args.period c.args.above c.args.text.now h c.in-Some.field-0-1.now c.in_err-walk_runs.field-0.0 head broken.2,
    )

pub returns : goal.returns
returns c =
    let same = layer_counted c.args.period c.args.text.now c.in-Some.heading c.in-Some.field-0-1.now (sym c.in-Some.ensures) in
    let walked = c.in_ok-walk_runs.ensures in
    ((subst IsSome (sym same) walked.0, walked.1), walked.2)
