use Rattle.std.proofs.Common.{◌≡◌, ◌<◌, ◌≤◌, ◌^◌, ℕ, [], length, Some, refl, sym, subst, arith}
use Rattle.layered_index.specs.Layers.{digit_count}
use Rattle.layered_index.specs.Rows.{lower_texts}
use Rattle.layered_index.specs.Sought.{IndexBytes, layers_left, IsHeaded}
use Rattle.layered_index.proofs.IndexHeadLemmas.{inside, head_digits}
use Rattle.layered_index.proofs.LowerLemmas.{lower_there}
use Rattle.layered_index.proofs.MarkLemmas.{head_follows, next_follows}
use Rattle.layered_index.proofs.OutlineLemmas.{ArePassed, passed_none, passed_next}
use Rattle.layered_index.proofs.OuterLayersLemmas.{bottom_gives}
use Rattle.layered_index.proofs.index_slice.IndexSlice.pass_to.Goals as goal

pub returns-then-self-height-clause-left : goal.returns-then-self-height-clause-left
returns-then-self-height-clause-left c cs is few =
    let s = c.self.inside in
    let digits = head_digits s.period s.bytes.now s.count s.ends.now s.texts.now cs c.self.invariant (inside _ _ cs c.self.view_is is) in
    let few_inside = subst (λ (w : IndexBytes). c.args.height ≤ digit_count w.period (length cs)) (sym c.self.view_is) few in
    absurd (omega (arith, digits, few_inside, c.if-self-height.true))

pub loop-left-init : goal.loop-left-init
loop-left-init c =
    let s = c.self.inside in
    let head = subst (λ (w : IndexBytes). IsHeaded w.period w.bytes s.count s.ends.now s.texts.now) c.self.view_is c.self.invariant in
    let follows = head_follows _ _ _ _ _ head in
    record {
      least = omega (arith, c.if-self-height.false);
      passed = λ cs is. passed_none _ _ s.count s.ends.now s.texts.now [] cs head (subst (λ (w : IndexBytes). length w.bytes < 2 ^ 64) c.self.view_is (omega arith)) is refl;
      rest_ends = follows.0;
      rest_texts = follows.1;
    }

pub returns-in_default-clause-left : goal.returns-in_default-clause-left
returns-in_default-clause-left c cs is few =
    let l = c.loop-left in
    absurd (lower_there c.args.self.now.period l.left l.place l.ends.now l.texts.now cs (omega (arith, c.loop-left-test.true)) (l.invariant.passed cs is).lower (sym c.in_default.ensures))

pub loop-left-preserved : goal.loop-left-preserved
loop-left-preserved c =
    let l = c.loop-left in
    let on = next_follows c.args.self.now.bytes l.place l.ends.now l.texts.now c.in-Some.layer.now c.in-Some.end c.in-Some.more_ends.now c.in-Some.more.now (sym c.in-Some.ensures)
    l.invariant.rest_ends l.invariant.rest_texts in
    record {
      least = omega (arith, c.loop-left-test.true);
      passed = λ cs is. passed_next c.args.self.now.period l.left l.place l.ends.now l.texts.now l.last.now c.in-Some.layer.now c.in-Some.end c.in-Some.more_ends.now c.in-Some.more.now cs
          (omega (arith, c.loop-left-test.true)) (l.invariant.passed cs is) (sym c.in-Some.ensures);
      rest_ends = on.0;
      rest_texts = on.1;
    }

pub returns-clause-left : goal.returns-clause-left
returns-clause-left c cs is few =
    let l = c.loop-left in
    let all : l.left ≡ c.args.height = omega (arith, l.invariant.least, c.loop-left-test.false) in
    subst (λ (n : ℕ). layers_left n l.place l.ends.now l.texts.now ≡ Some (lower_texts c.args.self.now.period n cs)) all (l.invariant.passed cs is).lower

pub returns-clause-bottom : goal.returns-clause-bottom
returns-clause-bottom c cs is e =
    let l = c.loop-left in
    let v = c.args.self.now in
    let none : l.left ≡ 0 = omega (arith, e, l.invariant.least, c.loop-left-test.false) in
    let two = subst (λ (w : IndexBytes). 2 ≤ w.period) c.self.view_is c.self.invariant.two in
    let small = subst (λ (w : IndexBytes). w.period ≤ 64) c.self.view_is c.self.invariant.few in
    let passed = subst (λ (n : ℕ). ArePassed v.period cs n l.place l.ends.now l.texts.now l.last.now) none (l.invariant.passed cs is) in
    bottom_gives v.period v.bytes l.last.now cs two small is passed.is passed.none
