use Rattle.std.proofs.Common.{◌≡◌, ◌<◌, ◌^◌, ℕ, List, [], length, Some, refl, sym, subst, arith}
use Rattle.std.proofs.lemmas.Bool.{eqb-false}
use Rattle.layered_index.specs.declared.outline.LayerEnd.{LayerEnd}
use Rattle.layered_index.specs.Rows.{lower_texts}
use Rattle.layered_index.specs.Sought.{IndexBytes, IsHeaded, layers_left}
use Rattle.layered_index.proofs.IndexHeadLemmas.{head_few, none_left}
use Rattle.layered_index.proofs.LowerLemmas.{lower_there}
use Rattle.layered_index.proofs.OutlineLemmas.{EndsBelow, room_first, room_next, passed_last, next_is_longer}
use Rattle.layered_index.proofs.index_slice.IndexSlice.deepest.Goals as goal

-- the head of the bytes that are seen
headed : (u v : IndexBytes) (count : ℕ) (ends texts : List ℕ) → u ≡ v → IsHeaded u.period u.bytes count ends texts → IsHeaded v.period v.bytes count ends texts
headed u v count ends texts e head = subst (λ (w : IndexBytes). IsHeaded w.period w.bytes count ends texts) e head

fit_in : (u v : IndexBytes) → u ≡ v → length u.bytes < 2 ^ 64 → length v.bytes < 2 ^ 64
fit_in u v e fits = subst (λ (w : IndexBytes). length w.bytes < 2 ^ 64) e fits

pub loop-deepest-init : goal.loop-deepest-init
loop-deepest-init c =
    let s = c.self.inside in
    let v = c.args.self.now in
    record {
      few = head_few _ _ _ c.self.invariant.counted;
      fits = omega arith;
      passed = λ cs is. room_first v.period c.args.room v.bytes s.count s.ends.now s.texts.now [] cs (headed _ _ s.count s.ends.now s.texts.now c.self.view_is c.self.invariant)
          (fit_in _ _ c.self.view_is (omega arith)) is refl;
    }

pub returns-in_default-clause-answer : goal.returns-in_default-clause-answer
returns-in_default-clause-answer c cs is =
    let l = c.loop-deepest in
    let d = l.deepest in
    absurd (lower_there c.args.self.now.period d.height l.place l.ends.now l.texts.now cs c.loop-deepest-test.true (l.invariant.passed cs is).passed.lower (sym c.in_default.ensures))

-- how the next layer ends, by the period that is seen
below : (u v : IndexBytes) (layer : List ℕ) (above last : LayerEnd) → u ≡ v → EndsBelow u.period layer above last → EndsBelow v.period layer above last
below u v layer above last e h = subst (λ (w : IndexBytes). EndsBelow w.period layer above last) e h

pub returns-then-layer_end-room-clause-answer : goal.returns-then-layer_end-room-clause-answer
returns-then-layer_end-room-clause-answer c cs is =
    let s = c.self.inside in
    let v = c.args.self.now in
    let l = c.loop-deepest in
    let d = l.deepest in
    let head = headed _ _ s.count s.ends.now s.texts.now c.self.view_is c.self.invariant in
    let fits = fit_in _ _ c.self.view_is (omega arith) in
    let longer = next_is_longer v.period c.args.room v.bytes d.height l.place l.ends.now l.texts.now d.layer.now c.in-Some.layer.now c.in-Some.end c.in-Some.more_ends.now c.in-Some.more.now
    d.count l.layer_end c.end_below-layer_end.result cs head.two head.few fits is c.loop-deepest-test.true (l.invariant.passed cs is) (sym c.in-Some.ensures)
    (below _ _ _ _ _ c.self.view_is c.end_below-layer_end.ensures) c.if-layer_end-room.true in
    passed_last v.period c.args.room v.bytes d.height l.place l.ends.now l.texts.now d.layer.now d.count l.layer_end cs head.two head.few fits is (l.invariant.passed cs is) (λ _. longer)

pub loop-deepest-preserved : goal.loop-deepest-preserved
loop-deepest-preserved c =
    let s = c.self.inside in
    let v = c.args.self.now in
    let l = c.loop-deepest in
    let d = l.deepest in
    let head = headed _ _ s.count s.ends.now s.texts.now c.self.view_is c.self.invariant in
    let fits = fit_in _ _ c.self.view_is (omega arith) in
    record {
      few = omega (arith, l.invariant.few);
      fits = omega (arith, c.if-layer_end-room.false);
      passed = λ cs is. room_next v.period c.args.room v.bytes d.height l.place l.ends.now l.texts.now d.layer.now c.in-Some.layer.now c.in-Some.end c.in-Some.more_ends.now c.in-Some.more.now
          d.count l.layer_end c.end_below-layer_end.result cs head.two head.few fits is c.loop-deepest-test.true (l.invariant.passed cs is) (sym c.in-Some.ensures)
          (below _ _ _ _ _ c.self.view_is c.end_below-layer_end.ensures) c.if-layer_end-room.false;
    }

pub returns-then-not-is_empty-clause-answer : goal.returns-then-not-is_empty-clause-answer
returns-then-not-is_empty-clause-answer c cs is =
    let v = c.args.self.now in
    let l = c.loop-deepest in
    let d = l.deepest in
    let none : d.height ≡ 0 = omega (arith, c.loop-deepest-test.false) in
    let left = subst (λ (n : ℕ). layers_left n l.place l.ends.now l.texts.now ≡ Some (lower_texts v.period n cs)) none (l.invariant.passed cs is).passed.lower in
    absurd (eqb-false (length l.texts.now) 0 (sym c.if-not-is_empty.ensures) (none_left l.place l.ends.now l.texts.now (lower_texts v.period 0 cs) left).1)

pub returns-clause-answer : goal.returns-clause-answer
returns-clause-answer c cs is =
    let s = c.self.inside in
    let v = c.args.self.now in
    let l = c.loop-deepest in
    let d = l.deepest in
    let head = headed _ _ s.count s.ends.now s.texts.now c.self.view_is c.self.invariant in
    let fits = fit_in _ _ c.self.view_is (omega arith) in
    passed_last v.period c.args.room v.bytes d.height l.place l.ends.now l.texts.now d.layer.now d.count l.layer_end cs head.two head.few fits is
    (l.invariant.passed cs is) (λ some. absurd (omega (arith, some, c.loop-deepest-test.false)))
