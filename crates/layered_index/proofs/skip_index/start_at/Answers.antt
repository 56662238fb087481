use Rattle.std.proofs.Common.{◌≡◌, suc, arith, sym, ap, ◌∙◌}
use Rattle.layered_index.proofs.RowLemmas.{starts_after}
use Rattle.layered_index.specs.Rows.{ends_in, start_in}
use Rattle.layered_index.proofs.skip_index.start_at.Goals as goal

pub returns-in-Some : goal.returns-in-Some
returns-in-Some c =
    let at : suc c.in-Some.before ≡ c.args.at = omega (arith, c.in-Some.ensures) in
    c.end.ensures ∙ sym (ap (start_in _ (ends_in c.args.rows.now)) (sym at) ∙ starts_after _ c.args.rows.now c.in-Some.before _ (omega (arith, c.requires)))
