use Rattle.std.proofs.Common.{List, Option, refl, sym, ap, ◌∙◌, subst}
use Rattle.layered_index.specs.declared.checkpoint.Checkpoint.{Checkpoint}
use Rattle.layered_index.specs.Sought.{past_on, AreOn}
use Rattle.layered_index.proofs.RestOfLayerLemmas.{none_on, on_found, on_there}
use Rattle.layered_index.proofs.index_slice.IndexSlice.seek_on.Goals as goal

pub loop-checkpoint-init : goal.loop-checkpoint-init
loop-checkpoint-init c cs is =
    let whole = c.whole.ensures.whole cs is in
    let on = c.in_ok-descent.ensures.run cs is.0 whole.0 whole.1 refl in
    ap (λ (xs : List Checkpoint). past_on xs c.args.target) c.new-cursor.ensures
    ∙ subst (λ (o : Option Checkpoint). AreOn cs c.args.target o c.in_ok-descent.descent.run.now) c.in-Some.is on

pub returns-in_default-clause-answer : goal.returns-in_default-clause-answer
returns-in_default-clause-answer c cs is =
    let whole = c.whole.ensures.whole cs is in
    none_on cs c.args.target (sym (c.in_ok-descent.ensures.answer cs is.0 whole.0 whole.1) ∙ c.in_default.is)

pub returns-then-target-checkpoint-clause-answer : goal.returns-then-target-checkpoint-clause-answer
returns-then-target-checkpoint-clause-answer c cs is =
    let whole = c.whole.ensures.whole cs is in
    on_found cs c.loop-checkpoint.cursor c.args.target c.in-Some.found c.in-Some-next.checkpoint c.next.new.self c.in-Some-next.ensures.steps c.if-target-checkpoint.true
    (c.loop-checkpoint.invariant cs is) (sym c.in-Some.is ∙ c.in_ok-descent.ensures.answer cs is.0 whole.0 whole.1)

pub returns-clause-answer : goal.returns-clause-answer
returns-clause-answer c cs is =
    let whole = c.whole.ensures.whole cs is in
    on_there cs c.loop-checkpoint.cursor c.args.target c.in-Some.found c.in_default-next.ensures.steps.0 (c.loop-checkpoint.invariant cs is)
    (sym c.in-Some.is ∙ c.in_ok-descent.ensures.answer cs is.0 whole.0 whole.1)
