use Rattle.std.proofs.Common.{◌≡◌, ◌≤◌, ◌<◌, ◌^◌, take}
use Rattle.std.specs.List.{AllByRecursion}
use Rattle.store_base.proofs.NumberLoops.{low}
use Rattle.store_base.proofs.vint.split_number.Given as goal

abbrev pub invariant-loop-i : goal.invariant-loop-i
invariant-loop-i l = record {
  short : l.i ≤ 9;
  value : l.value ≡ low (take l.i l.bytes);
  scale : l.scale ≡ 128 ^ l.i;
  below : AllByRecursion (λ d. d < 128) (take l.i l.bytes);
}
