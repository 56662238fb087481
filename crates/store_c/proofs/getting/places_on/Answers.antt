use Rattle.std.proofs.Common.{◌∙◌, length-set, arith}
use Rattle.store_c.proofs.PlacesLemmas.{one_more_in, after_stay}
use Rattle.store_c.proofs.getting.places_on.Goals as goal

pub loop-at-preserved : goal.loop-at-preserved
loop-at-preserved c =
    let l = c.loop-at in
    let kept = l.invariant in
    let end = c.min-end.ensures in
    let lt = c.loop-at-test.true in
    let p = c.in-Ok.place in
    record {
      on = omega (arith, kept.on);
      are = λ file held are. one_more_in file c.args.first l.at l.places p (omega (arith, kept.size)) (kept.are file held are) (c.in-Ok.ensures file held);
      rest = after_stay l.at l.places c.args.places.now p kept.rest;
      size = length-set _ _ _ ∙ kept.size;
    }
