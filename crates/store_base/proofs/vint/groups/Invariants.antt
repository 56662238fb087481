use Rattle.std.proofs.Common.{◌≡◌, ◌+◌, ◌++◌, ◌≤◌, length, take}
use Rattle.store_base.specs.VInt.{number}
use Rattle.store_base.proofs.vint.groups.Given as goal

-- the groups so far and those of the rest are all
abbrev pub invariant-loop-rest : goal.invariant-loop-rest
invariant-loop-rest l = record {
  size : length l.bytes ≡ 10;
  groups : take l.len l.bytes ++ number l.rest ≡ number l.n;
  room : l.len + length (number l.rest) ≤ 10;
}

abbrev pub decreases-loop-rest : goal.decreases-loop-rest
decreases-loop-rest l = l.rest
