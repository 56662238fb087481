use Rattle.std.proofs.Common.{◌+◌, ◌-◌, ◌/◌, arith}
use Rattle.layered_index.proofs.HalvingLemmas.{half_left}
use Rattle.layered_index.proofs.RowSeekLemmas.{up_to_here, from_the_next, found_there}
use Rattle.layered_index.proofs.rows.halve.Goals as goal

pub loop-low-preserved-then-rows-middle : goal.loop-low-preserved-then-rows-middle
loop-low-preserved-then-rows-middle c =
    let l = c.loop-low in
    let within = l.invariant.within in
    let middle = l.low + (l.high - l.low) / 2 in
    let fewer = half_left (middle - l.low) (l.high - l.low) (omega arith) (omega arith) in
    record {
      order = omega arith;
      within = omega arith;
      between = λ cs is line first. up_to_here c.args.rows.now cs is c.args.target l.low l.high middle _ (l.invariant.between cs is line first) (omega arith) (omega arith) c.if-rows-middle.true;
      most = omega (arith, fewer, l.invariant.most);
    }

pub loop-low-preserved : goal.loop-low-preserved
loop-low-preserved c =
    let l = c.loop-low in
    let within = l.invariant.within in
    let middle = l.low + (l.high - l.low) / 2 in
    let fewer = half_left (l.high - (middle + 1)) (l.high - l.low) (omega arith) (omega arith) in
    record {
      order = omega arith;
      within = within;
      between = λ cs is line first.
          from_the_next c.args.rows.now cs is c.args.target l.low l.high middle _ line (l.invariant.between cs is line first) (omega arith) (omega arith) c.if-rows-middle.false;
      most = omega (arith, fewer, l.invariant.most);
    }

pub returns-clause-answer : goal.returns-clause-answer
returns-clause-answer c cs is line first =
    let l = c.loop-low in
    found_there cs c.args.target l.low l.high (omega (arith, l.invariant.order)) (l.invariant.between cs is line first)
