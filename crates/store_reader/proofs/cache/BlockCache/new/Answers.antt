use Rattle.std.proofs.Common.{arith}
use Rattle.std.specs.List.{IsDistinct}
use Rattle.store_reader.proofs.cache.BlockCache.new.Goals as goal

pub invariant_of-result : goal.invariant_of-result
unfolding IsDistinct
invariant_of-result c = rw (c.in_ok-new.ensures.capacity, c.in_ok-new.ensures.none) (record { distinct = tt; few = omega arith })
