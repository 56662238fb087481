use Rattle.std.proofs.Common.{◌≡◌}
use Rattle.store_reader.specs.CacheSums.{stats_sum}
use Rattle.store_reader.proofs.cache_stats.CacheStatsSum.sum.Given as goal

-- what the taken ones add to
abbrev pub invariant-loop-stats : goal.invariant-loop-stats
invariant-loop-stats g l = l.sum ≡ stats_sum l.yielded
