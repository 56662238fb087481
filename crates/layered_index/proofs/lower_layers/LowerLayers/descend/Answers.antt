use Rattle.std.proofs.Common.{ℕ, ◌≡◌, ◌-◌, ◌≤◌, Option, length, None, refl, sym, ◌∙◌, ap, subst, not, arith}
use Rattle.std.proofs.lemmas.Bool.{eqb-false}
use Rattle.std.proofs.lemmas.Option.{IfSome_then}
use Rattle.std.specs.Prelude.{IfSome}
use Rattle.store_base.specs.Counts.{raised}
use Rattle.layered_index.specs.declared.checkpoint.Checkpoint.{Checkpoint}
use Rattle.layered_index.specs.Sought.{AreOn, layers_left}
use Rattle.layered_index.proofs.DescentLemmas.{leads_next, leads_sought, leads_to_none, leads_on, leads_last, one_more_counted}
use Rattle.layered_index.proofs.LowerLemmas.{LeadsLower, leads_lower, inside_lower, inside_found}
use Rattle.layered_index.proofs.lower_layers.LowerLayers.descend.Goals as goal

pub loop-init : goal.loop-init
loop-init c =
    let s = c.self.inside in
    let all : s.height - 0 ≡ s.height = omega arith in
    record {
      leads = λ cs h is found. subst (λ (n : ℕ). LeadsLower s.period c.args.target cs c.args.above c.args.above s.texts.now (layers_left n s.place s.ends.now s.texts.now)) (sym all)
          (leads_lower s.period c.args.target s.height s.place s.ends.now s.texts.now cs c.args.above s.texts.now c.self.invariant.0 c.self.invariant.1 h (omega arith)
          (inside_lower _ _ cs c.self.view_is is)
          (inside_found _ _ cs c.args.target c.args.above c.self.view_is found));
      counted = omega arith;
      past = c.requires.past;
      more = omega arith;
      least = λ none. subst (λ (o : Option Checkpoint). IfSome o (λ _. raised c.args.steps.now 1 ≤ c.args.steps.now)) (sym none) tt;
    }

pub returns-in_default-clause-answer : goal.returns-in_default-clause-answer
returns-in_default-clause-answer c cs h is found =
    let l = c.loop in
    let leads = l.invariant.leads cs h is found in
    absurd (leads_next c.self.inside.period c.args.target cs l.found leads.0 c.self.inside.height l.counter l.place l.ends.now l.texts.now c.loop-test.true (sym c.in_default.ensures) leads.1)

pub returns-in_default-seek_layer-clause-answer : goal.returns-in_default-seek_layer-clause-answer
returns-in_default-seek_layer-clause-answer c cs h is found =
    let l = c.loop in
    let leads = l.invariant.leads cs h is found in
    absurd (leads_sought c.self.inside.period c.args.target cs l.found leads.0 c.self.inside.height l.counter l.place l.ends.now l.texts.now c.in-Some.layer.now c.in-Some.end
    c.in-Some.more_ends.now c.in-Some.more.now None c.loop-test.true (sym c.in-Some.ensures) leads.1 c.in_default-seek_layer.ensures.answer refl)

pub returns-then-is_none-clause-answer : goal.returns-then-is_none-clause-answer
returns-then-is_none-clause-answer c cs h is found =
    let l = c.loop in
    let leads = l.invariant.leads cs h is found in
    sym (leads_to_none c.self.inside.period c.args.target cs l.found c.in-Some-seek_layer.next leads.0 c.self.inside.height l.counter l.place l.ends.now l.texts.now
    c.in-Some.layer.now c.in-Some.end c.in-Some.more_ends.now c.in-Some.more.now c.loop-test.true (sym c.in-Some.ensures) (c.is_none.ensures ∙ ap not c.if-is_none.true) leads.1
    c.in-Some-seek_layer.ensures.answer)

pub loop-preserved : goal.loop-preserved
loop-preserved c =
    let l = c.loop in
    record {
      leads = λ cs h is found.
          let leads = l.invariant.leads cs h is found in (
            _,
            leads_on c.self.inside.period c.args.target cs l.found c.in-Some-seek_layer.next leads.0 c.self.inside.height l.counter l.place l.ends.now l.texts.now
                c.in-Some.layer.now c.in-Some.end c.in-Some.more_ends.now c.in-Some.more.now c.loop-test.true (sym c.in-Some.ensures) (c.is_none.ensures
                ∙ ap not c.if-is_none.false) leads.1
                c.in-Some-seek_layer.ensures.answer,
            λ _. sym c.from_pointer-run.ensures,
          );
      counted = one_more_counted _ l.steps c.args.steps.now c.self.inside.period l.counter c.seek_layer.ensures.counted l.invariant.counted;
      past = c.in-Some-seek_layer.ensures.past;
      more = omega (arith, c.seek_layer.ensures.more, l.invariant.more);
      least = λ _. IfSome_then c.in-Some-seek_layer.next c.in-Some-seek_layer.ensures.least (λ _ h. omega (arith, h, l.invariant.more));
    }

pub returns-then-not-is_empty-clause-answer : goal.returns-then-not-is_empty-clause-answer
returns-then-not-is_empty-clause-answer c cs h is found =
    let l = c.loop in
    let leads = l.invariant.leads cs h is found in
    let last = leads_last c.self.inside.period c.args.target cs l.found leads.0 c.self.inside.height l.counter l.place l.ends.now l.texts.now c.loop-test.false leads.1 in
    absurd (eqb-false (length l.texts.now) 0 (sym c.if-not-is_empty.ensures) last.2)

pub returns-clause-answer : goal.returns-clause-answer
returns-clause-answer c cs h is found =
    let l = c.loop in
    let leads = l.invariant.leads cs h is found in
    let last = leads_last c.self.inside.period c.args.target cs l.found leads.0 c.self.inside.height l.counter l.place l.ends.now l.texts.now c.loop-test.false leads.1 in
    sym last.0

pub returns-clause-run : goal.returns-clause-run
returns-clause-run c cs h is found none =
    let l = c.loop in
    let leads = l.invariant.leads cs h is found in
    let last = leads_last c.self.inside.period c.args.target cs l.found leads.0 c.self.inside.height l.counter l.place l.ends.now l.texts.now c.loop-test.false leads.1 in
    subst (AreOn cs c.args.target l.found) (leads.2 none) last.1
