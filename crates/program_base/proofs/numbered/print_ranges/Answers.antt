use Rattle.std.proofs.Common.{◌≡◌, ◌∙◌, ◌++◌, ◌∷◌, [], sym, subst, ap, take, append-nil}
use Rattle.std.proofs.KnownBytes.{Keeps-refl}
use Rattle.std.proofs.lemmas.List.{take_more, take_all}
use Rattle.store_folder.proofs.PublishLemmas.{on_ok_from}
use Rattle.program_base.proofs.numbered.print_ranges.Goals as goal

pub loop-range-init : goal.loop-range-init
loop-range-init g c = g.met.N.Numbered.prints_none c.args.form c.args.numbered.now _ _ (Keeps-refl (g.W.Write.contents c.args.output.now))

pub loop-range-preserved : goal.loop-range-preserved
loop-range-preserved g c =
    let out = g.W.Write.contents in
    let ranges = c.args.ranges.now in
    let range = c.range-item.result in
    let so_far = take c.loop-range.range-index ranges in
    let one_more = take_more ranges c.loop-range.range-index range c.loop-range-test.true ∙ ap (λ r. so_far ++ r ∷ []) (sym c.range-item.is) in
    subst (λ rs. g.N.Numbered.prints c.args.form rs c.args.numbered.now c.print.new.self (out c.args.output.now) (out c.print.new.output)) (sym one_more)
    (g.met.N.Numbered.prints_more c.args.form so_far (range ∷ []) c.args.numbered.now c.loop-range.numbered c.print.new.self (out c.args.output.now) (out c.loop-range.output) (out c.print.new.output)
    c.loop-range.invariant c.in_ok-print.ensures.printed)

pub returns : goal.returns
returns g c =
    let out = g.W.Write.contents in
    let ranges = c.args.ranges.now in
    let so_far = take c.loop-range.range-index ranges in
    let all : so_far ++ [] ≡ ranges = append-nil so_far ∙ take_all c.loop-range.range-index ranges c.loop-range-test.false in
    on_ok_from c.to_output.result (λ _.
    subst (λ rs. g.N.Numbered.prints c.args.form rs c.args.numbered.now c.loop-range.numbered (out c.args.output.now) (out c.flush.new.self)) all
    (g.met.N.Numbered.prints_more c.args.form so_far [] c.args.numbered.now c.loop-range.numbered c.loop-range.numbered (out c.args.output.now) (out c.loop-range.output) (out c.flush.new.self)
    c.loop-range.invariant (g.met.N.Numbered.prints_none c.args.form c.loop-range.numbered (out c.loop-range.output) (out c.flush.new.self) c.flush.ensures.bytes)))
