use Rattle.std.proofs.Common.{◌≡◌, ◌+◌, ◌-◌, [], length, sym, ◌∙◌, ap, subst, arith}
use Rattle.std.proofs.lemmas.Bool.{eqb-true, eqb-false}
use Rattle.std.proofs.lemmas.List.{nil_from_length}
use Rattle.layered_index.specs.Checkpoint.{checkpoint}
use Rattle.layered_index.specs.Faults.{standing_from, PassedTo}
use Rattle.layered_index.specs.LayerReading.{items, len_from, pointers_at, ArePointers}
use Rattle.layered_index.specs.Tallies.{kept}
use Rattle.layered_index.proofs.CursorLemmas.{items_none}
use Rattle.layered_index.proofs.FaultLemmas.{walk_ends, passed_here, passed_unpointed, passed_on, standing_refused, standing_goes_on, standing_empty}
use Rattle.layered_index.proofs.WalkLemmas.{run_takes, walk_refused, walk_goes_on, walk_done, standing_some, pointers_end, pointers_go_on, not_true, positive}
use Rattle.layered_index.proofs.layers.walk_runs.Goals as goal
use Rattle.layered_index.proofs.layers.walk_runs.Goals.{then-not-may_stand-via-then-not-may_stand, then-not-may_stand-via-else-not-may_stand+then-not-next_points}

pub returns-in_default : goal.returns-in_default
returns-in_default c =
    let l = c.loop-rest in
    let h = c.args.heading in
    walk_ends c.args.period l.doc_end l.byte_end l.place l.rest.now l.above (len_from c.args.period h.doc h.byte c.args.text.now)
    (ArePointers c.args.above (pointers_at 0 c.args.text.now)) (length c.args.text.now)
    (PassedTo c.args.above (standing_from c.args.period h.doc h.byte 0 c.args.text.now) 0)
    (positive (length l.rest.now) (eqb-false (length l.rest.now) 0 (sym c.loop-rest-test.ensures))) (omega (arith, l.invariant.places)) (sym c.in_default.ensures.read)
    l.invariant.counted l.invariant.passed

pub overflow_sub-end : goal.overflow_sub-end
overflow_sub-end c = let l = c.loop-rest in omega (arith, run_takes l.rest.now (c.in-Some.run', c.in-Some.after.now) (sym c.in-Some.ensures.read))

pub returns-then-not-may_stand : goal.returns-then-not-may_stand
returns-then-not-may_stand c =
    let l = c.loop-rest in
    let h = c.args.heading in
    let r = c.in-Some.run' in
    let after = c.in-Some.after.now in
    let read = (sym c.in-Some.ensures.read) in
    let place = l.place + (length l.rest.now - length after) in
    let passed = l.invariant.passed l.place in (
      λ good.
          elim c.then-not-may_stand.branch [
            | then-not-may_stand-via-then-not-may_stand w ↦ walk_refused c.args.period l.doc_end l.byte_end l.rest.now r after (len_from c.args.period h.doc h.byte c.args.text.now) read
                (sym c.may_stand.ensures ∙ w.if-not-may_stand.true) l.invariant.counted good.0
            | then-not-may_stand-via-else-not-may_stand+then-not-next_points w ↦
                let pointed = subst (ArePointers l.above) (pointers_go_on l.place l.rest.now r after read) (l.invariant.pointed.1 good.1) in
                not_true ⊥ (sym w.if-not-next_points.true ∙ ((w.next_points.ensures (pointers_at place after)).1 pointed).0)
          ],
      omega (arith, l.invariant.places),
      elim c.then-not-may_stand.branch [
        | then-not-may_stand-via-then-not-may_stand w ↦ passed (passed_here l.above _ l.place
            (standing_refused c.args.period l.doc_end l.byte_end l.place l.rest.now r after read (sym c.may_stand.ensures ∙ w.if-not-may_stand.true)))
        | then-not-may_stand-via-else-not-may_stand+then-not-next_points w ↦ passed (passed_unpointed l.above w.next_points.new.above w.next_points.result
            (checkpoint r.doc r.doc_end l.place place) _ (standing_from c.args.period r.doc_end r.byte_end place after) l.place
            (standing_goes_on c.args.period l.doc_end l.byte_end l.place l.rest.now r after read
            (sym c.may_stand.ensures ∙ w.if-not-may_stand.false)) w.next_points.ensures w.if-not-next_points.true)
      ],
    )

pub loop-rest-smaller : goal.loop-rest-smaller
loop-rest-smaller c = let l = c.loop-rest in omega (arith, run_takes l.rest.now (c.in-Some.run', c.in-Some.after.now) (sym c.in-Some.ensures.read))

pub loop-rest-preserved : goal.loop-rest-preserved
loop-rest-preserved c =
    let l = c.loop-rest in
    let h = c.args.heading in
    let r = c.in-Some.run' in
    let after = c.in-Some.after.now in
    let read = (sym c.in-Some.ensures.read) in
    let stands = sym c.may_stand.ensures ∙ c.if-not-may_stand.false in
    let place = l.place + (length l.rest.now - length after) in
    let all = pointers_go_on l.place l.rest.now r after read in
    let next = c.next_points.ensures (pointers_at place after) in
    record {
      counted = walk_goes_on c.args.period l.doc_end l.byte_end l.rest.now r after (len_from c.args.period h.doc h.byte c.args.text.now) read stands l.invariant.counted;
      pointed = (
        λ p. l.invariant.pointed.0 (subst (ArePointers l.above) (sym all) (next.0 (c.if-not-next_points.false, p))),
        λ p. (next.1 (subst (ArePointers l.above) all (l.invariant.pointed.1 p))).1,
      );
      passed = λ byte to. l.invariant.passed byte (passed_on l.above c.next_points.new.above c.next_points.result (checkpoint r.doc r.doc_end l.place place) _
          (standing_from c.args.period r.doc_end r.byte_end place after) l.place byte
          (standing_goes_on c.args.period l.doc_end l.byte_end l.place l.rest.now r after read stands) c.next_points.ensures c.if-not-next_points.false to);
      places = omega (arith, run_takes l.rest.now (r, after) read, l.invariant.places);
      few = omega (arith, c.in-Some.ensures.few, l.invariant.few);
      kept = c.in-Some.ensures.kept (standing_some c.args.period l.doc_end l.byte_end r (length after) stands) ∙ l.invariant.kept;
    }

pub returns-then-none_left : goal.returns-then-none_left
returns-then-none_left c =
    let l = c.loop-rest in
    let h = c.args.heading in
    let none : length l.rest.now ≡ 0 = eqb-true (length l.rest.now) 0 (sym c.loop-rest-test.ensures) in
    let given : items 0 0 0 l.rest.now ≡ [] = ap (items 0 0 0) (nil_from_length l.rest.now none) ∙ items_none 0 0 in (
      walk_done c.args.period l.doc_end l.byte_end l.rest.now (len_from c.args.period h.doc h.byte c.args.text.now) none l.invariant.counted,
      l.invariant.pointed.0 (subst (ArePointers l.above) (sym (pointers_end l.place l.rest.now none)) (c.none_left.ensures.0 c.if-none_left.true)),
      ap (kept (l.tally, l.rows)) (sym given) ∙ l.invariant.kept,
    )

pub returns-else-none_left : goal.returns-else-none_left
returns-else-none_left c =
    let l = c.loop-rest in
    let none : length l.rest.now ≡ 0 = eqb-true (length l.rest.now) 0 (sym c.loop-rest-test.ensures) in (
      λ good. not_true ⊥ (sym c.if-none_left.false ∙ c.none_left.ensures.1 (subst (ArePointers l.above) (pointers_end l.place l.rest.now none) (l.invariant.pointed.1 good.1))),
      omega (arith, l.invariant.places),
      l.invariant.passed l.place (passed_here l.above _ l.place (standing_empty c.args.period l.doc_end l.byte_end l.place l.rest.now none)),
    )
