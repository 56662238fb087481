use Rattle.std.proofs.Common.{◌+◌, ◌-◌, arith}
use Rattle.layered_index.proofs.HalvingLemmas.{digits_grow}
use Rattle.layered_index.proofs.NearLemmas.{spare_taken}
use Rattle.layered_index.proofs.RowSeekLemmas.{up_to_here, from_the_next}
use Rattle.layered_index.proofs.rows.narrow_near.Goals as goal

pub loop-spare-preserved-then-rows-probe : goal.loop-spare-preserved-then-rows-probe
loop-spare-preserved-then-rows-probe c =
    let l = c.loop-spare in
    let within = l.invariant.within in
    let fewer = digits_grow (l.probe - l.low) (l.high - l.low) (omega arith) in
    let taken = spare_taken l.spare c.loop-spare-test.true in
    record {
      order = c.if-low-probe.true;
      within = omega arith;
      between = λ cs is line. up_to_here c.args.rows.now cs is c.args.target l.low l.high l.probe _ (l.invariant.between cs is line) c.if-low-probe.true (omega arith) c.if-rows-probe.true;
      most = omega (arith, fewer, taken, l.invariant.most);
    }

pub loop-spare-preserved : goal.loop-spare-preserved
loop-spare-preserved c =
    let l = c.loop-spare in
    let within = l.invariant.within in
    let fewer = digits_grow (l.high - (l.probe + 1)) (l.high - l.low) (omega arith) in
    let taken = spare_taken l.spare c.loop-spare-test.true in
    record {
      order = omega arith;
      within = within;
      between = λ cs is line. from_the_next c.args.rows.now cs is c.args.target l.low l.high l.probe _ line (l.invariant.between cs is line) (omega arith) (omega arith) c.if-rows-probe.false;
      most = omega (arith, fewer, taken, l.invariant.most);
    }
