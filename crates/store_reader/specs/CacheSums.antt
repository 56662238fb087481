-- Sums of what caches did.
use Rattle.std.specs.Prelude.{◌≡◌, List}
use Rattle.std.specs.List.{fold}
use Rattle.store_base.specs.Counts.{raised}
use Rattle.store_reader.specs.declared.cache_stats.CacheStats.{CacheStats}

-- what was done by none
abbrev pub no_stats : CacheStats
no_stats = record { num_entries = 0; cache_hits = 0; cache_misses = 0 }

-- field by field, each up to the greatest number
abbrev pub stats_added : CacheStats → CacheStats → CacheStats
stats_added a b = record {
  num_entries = raised a.num_entries b.num_entries;
  cache_hits =
      raised a.cache_hits b.cache_hits;
  cache_misses = raised a.cache_misses b.cache_misses;
}

-- one after the other
abbrev pub stats_sum : List CacheStats → CacheStats
stats_sum all = fold stats_added no_stats all

-- The order of two doesn't matter, nor how three are grouped.
pub record StatsAreAdded : Type 0 where
  pub commute : (a b : CacheStats) → stats_added a b ≡ stats_added b a
  pub associate : (a b c : CacheStats) → stats_added (stats_added a b) c ≡ stats_added a (stats_added b c)
