use Rattle.std.proofs.Common.{◌≡◌, ℕ, Bool, List, map, take, ap, ◌∙◌, Bor, arith}
use Rattle.std.specs.Prelude.{◌&&◌, ◌||◌, nat_lt}
use Rattle.std.specs.List.{list_any}
use Rattle.std.proofs.lemmas.List.{take_all}
use Rattle.std.proofs.lemmas.Result.{err_from_is_err_and}
use Rattle.store_commands.specs.LeftOut.{is_among, part_names}
use Rattle.store_commands.proofs.PartLemmas.{named_by_parts, part_refuses}
use Rattle.store_commands.proofs.left_out.add_spans.Goals as goal

pub returns-in_err-add_part-clause-refused : goal.returns-in_err-add_part-clause-refused
returns-in_err-add_part-clause-refused c =
    let p = err_from_is_err_and c.from_residual-in_err-add_part.result c.from_residual-in_err-add_part.ensures.1 in
    let same = ap (map (λ (x : Bor (List ℕ)). x.now)) c.deref-part-items.ensures.value ∙ c.in_ok-parts.ensures in
    rw (p.1, p.2) (part_refuses c.args.num_docs c.args.word.now c.deref-part-items.result.now c.loop-part.part-index _ c.in_err-add_part.field-0.0 same c.loop-part-test.true
    c.in_err-add_part.ensures.refused)

pub returns-clause-added : goal.returns-clause-added
returns-clause-added c id =
    let items = c.deref-part-items.result.now in
    let all : take c.loop-part.part-index items ≡ items = take_all c.loop-part.part-index items (omega (arith, c.loop-part-test.false)) in
    c.loop-part.invariant.added id
    ∙ ap (λ (b : Bool). is_among c.args.spans.now.items id || (b && nat_lt id c.args.num_docs))
    (ap (list_any (λ (part : Bor (List ℕ)). part_names part.now id)) (all ∙ c.deref-part-items.ensures.value) ∙ named_by_parts c.args.word.now c.in_ok-parts.parts.items id c.in_ok-parts.ensures)
