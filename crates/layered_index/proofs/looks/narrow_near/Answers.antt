use Rattle.std.proofs.Common.{◌+◌, ◌-◌, sym, subst, arith}
use Rattle.layered_index.specs.Seeking.{EndsPast}
use Rattle.layered_index.proofs.HalvingLemmas.{IsLook, looked, none_up_to, digits_grow}
use Rattle.layered_index.proofs.NearLemmas.{spare_taken}
use Rattle.layered_index.proofs.looks.narrow_near.Goals.{After-look}
use Rattle.layered_index.proofs.looks.narrow_near.Goals as goal

-- the look at the probe
look_is : (g : _) (c : After-look g) → IsLook (g.S.Looks.list c.args.source.now) (g.S.Looks.list c.look.new.self) c.loop-spare.probe c.look.result (g.S.Looks.looks c.args.source.now)
    (g.S.Looks.looks c.look.new.self)
look_is g c =
    let e = c.look.ensures in
    looked _ _ _ _ _ _ _ _ c.loop-spare.invariant.same_list e.list e.given e.fits e.looks c.loop-spare.invariant.more

pub loop-spare-preserved-then-look-target : goal.loop-spare-preserved-then-look-target
loop-spare-preserved-then-look-target g c =
    let l = c.loop-spare in
    let look = look_is g (goal.at.loop-spare-preserved-then-look-target g c).After-look in
    let fewer = digits_grow (l.probe - l.low) (l.high - l.low) (omega arith) in
    let taken = spare_taken l.spare c.loop-spare-test.true in
    record {
      same_list = look.same;
      between = record {
        order = c.if-low-probe.true;
        within = omega (arith, l.invariant.between.within);
        before = l.invariant.between.before;
        past = subst (EndsPast c.args.target) (sym look.given) c.if-look-target.true;
      };
      most = omega (arith, fewer, taken, c.look.ensures.looks, l.invariant.most);
      more = look.more;
      least = λ _. look.least;
    }

pub loop-spare-preserved : goal.loop-spare-preserved
loop-spare-preserved g c =
    let l = c.loop-spare in
    let look = look_is g (goal.at.loop-spare-preserved g c).After-look in
    let fewer = digits_grow (l.high - (l.probe + 1)) (l.high - l.low) (omega arith) in
    let taken = spare_taken l.spare c.loop-spare-test.true in
    record {
      same_list = look.same;
      between = record {
        order = omega arith;
        within = l.invariant.between.within;
        before = none_up_to _ c.args.target l.probe _ c.len-high.ensures.in_line look.given c.if-look-target.false;
        past = l.invariant.between.past;
      };
      most = omega (arith, fewer, taken, c.look.ensures.looks, l.invariant.most);
      more = look.more;
      least = λ _. look.least;
    }
