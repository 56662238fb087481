use Rattle.std.proofs.Common.{◌≡◌, ◌≤◌, ◌<◌, ◌+◌, ◌-◌, None}
use Rattle.std.specs.Prelude.{slice_get}
use Rattle.layered_index.specs.Layers.{digit_count}
use Rattle.layered_index.specs.Seeking.{LiesBetween}
use Rattle.store_base.specs.Counts.{raised}
use Rattle.layered_index.proofs.looks.halve.Given as goal

abbrev pub invariant-loop-low : goal.invariant-loop-low
invariant-loop-low g l =
    let s = g.S.Looks in
    let start = l.initial.source in
    let cs = s.list start in
    record {
      same_list : s.list l.source ≡ cs;
      between : LiesBetween cs l.target l.low l.high;
      high_falls : l.high ≤ l.initial.high;
      found_is : l.high < l.initial.high → l.found ≡ slice_get cs l.high;
      none : l.high ≡ l.initial.high → l.found ≡ None;
      most : s.looks l.source + digit_count 2 (l.high - l.low) ≤ s.looks start + digit_count 2 (l.initial.high - l.initial.low);
      more : s.looks start ≤ s.looks l.source;
      least : l.high - l.low < l.initial.high - l.initial.low → raised (s.looks start) 1 ≤ s.looks l.source;
    }

abbrev pub decreases-loop-low : goal.decreases-loop-low
decreases-loop-low g l = l.high - l.low
