use Rattle.std.proofs.Common.{◌≡◌, ◌+◌, ◌-◌, ◌/◌, sym, ap, subst, ◌∙◌, arith}
use Rattle.std.specs.Prelude.{slice_get}
use Rattle.layered_index.specs.Seeking.{EndsPast}
use Rattle.layered_index.proofs.HalvingLemmas.{IsLook, looked, first_at, none_up_to, half_left}
use Rattle.layered_index.proofs.looks.halve.Goals.{After-look-checkpoint}
use Rattle.layered_index.proofs.looks.halve.Goals as goal

-- the look at the middle
look_is : (g : _) (c : After-look-checkpoint g) → IsLook (g.S.Looks.list c.args.source.now) (g.S.Looks.list c.look-checkpoint.new.self) (c.loop-low.low + (c.loop-low.high - c.loop-low.low) / 2)
    c.look-checkpoint.result (g.S.Looks.looks c.args.source.now) (g.S.Looks.looks c.look-checkpoint.new.self)
look_is g c =
    let e = c.look-checkpoint.ensures in
    looked _ _ _ _ _ _ _ _ c.loop-low.invariant.same_list e.list e.given e.fits e.looks c.loop-low.invariant.more

pub loop-low-preserved-then-checkpoint-target : goal.loop-low-preserved-then-checkpoint-target
loop-low-preserved-then-checkpoint-target g c =
    let l = c.loop-low in
    let look = look_is g (goal.at.loop-low-preserved-then-checkpoint-target g c).After-look-checkpoint in
    let middle = l.low + (l.high - l.low) / 2 in
    let fewer = half_left (middle - l.low) (l.high - l.low) (omega arith) (omega arith) in
    record {
      same_list = look.same;
      between = record {
        order = omega arith;
        within = omega (arith, l.invariant.between.within);
        before = l.invariant.between.before;
        past = subst (EndsPast c.args.target) (sym look.given) c.if-checkpoint-target.true;
      };
      high_falls = omega (arith, l.invariant.high_falls);
      found_is = λ _. sym look.given;
      none = λ same. absurd (omega (arith, l.invariant.high_falls, same));
      most = omega (arith, fewer, c.look-checkpoint.ensures.looks, l.invariant.most);
      more = look.more;
      least = λ _. look.least;
    }

pub loop-low-preserved : goal.loop-low-preserved
loop-low-preserved g c =
    let l = c.loop-low in
    let look = look_is g (goal.at.loop-low-preserved g c).After-look-checkpoint in
    let middle = l.low + (l.high - l.low) / 2 in
    let fewer = half_left (l.high - (middle + 1)) (l.high - l.low) (omega arith) (omega arith) in
    record {
      same_list = look.same;
      between = record {
        order = omega arith;
        within = l.invariant.between.within;
        before = none_up_to _ c.args.target middle _ c.requires.in_line look.given c.if-checkpoint-target.false;
        past = l.invariant.between.past;
      };
      high_falls = l.invariant.high_falls;
      found_is = l.invariant.found_is;
      none = l.invariant.none;
      most = omega (arith, fewer, c.look-checkpoint.ensures.looks, l.invariant.most);
      more = look.more;
      least = λ _. look.least;
    }

pub returns-clause-answer : goal.returns-clause-answer
returns-clause-answer g c =
    let s = g.S.Looks in
    let l = c.loop-low in
    let cs = s.list c.args.source.now in
    let met : l.low ≡ l.high = omega (arith, l.invariant.between.order) in
    ap (slice_get cs) met ∙ sym (first_at cs c.args.target l.high (λ i d lt e. l.invariant.between.before i d (omega (arith, met)) e) l.invariant.between.past)

pub returns-clause-found : goal.returns-clause-found
returns-clause-found g c =
    let l = c.loop-low in
    let cs = g.S.Looks.list c.args.source.now in
    let met : l.low ≡ l.high = omega (arith, l.invariant.between.order) in
    λ below. l.invariant.found_is (omega (arith, met, below)) ∙ ap (slice_get cs) (sym met)

pub returns-clause-none : goal.returns-clause-none
returns-clause-none g c =
    let l = c.loop-low in
    let met : l.low ≡ l.high = omega (arith, l.invariant.between.order) in
    λ last. l.invariant.none (omega (arith, met, last))
