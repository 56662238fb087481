use Rattle.std.proofs.Common.{◌≡◌, ◌≤◌, ◌<◌, ◌+◌, ◌-◌, length}
use Rattle.layered_index.specs.Layers.{digit_count}
use Rattle.layered_index.specs.Seeking.{LiesBetween, looks_to_spare}
use Rattle.store_base.specs.Counts.{raised}
use Rattle.layered_index.proofs.looks.narrow_near.Given as goal

-- each look takes one of those to spare
abbrev pub invariant-loop-spare : goal.invariant-loop-spare
invariant-loop-spare g l =
    let s = g.S.Looks in
    let start = l.initial.source in
    let cs = s.list start in
    record {
      same_list : s.list l.source ≡ cs;
      between : LiesBetween cs l.target l.low l.high;
      most : s.looks l.source + digit_count 2 (l.high - l.low) + digit_count 4 l.spare ≤ s.looks start + digit_count 2 (length cs) + looks_to_spare (length cs);
      more : s.looks start ≤ s.looks l.source;
      least : l.high - l.low < length cs → raised (s.looks start) 1 ≤ s.looks l.source;
    }

abbrev pub decreases-loop-spare : goal.decreases-loop-spare
decreases-loop-spare g l = l.high - l.low
