-- Sums of what caches did.
use Rattle.std.proofs.Common.{◌≡◌, ℕ, refl, arith}
use Rattle.store_base.specs.Counts.{raised}
use Rattle.store_reader.specs.declared.cache_stats.CacheStats.{CacheStats}
use Rattle.store_reader.specs.CacheSums.{StatsAreAdded}

stats : ℕ → ℕ → ℕ → CacheStats
stats n h m = record { num_entries = n; cache_hits = h; cache_misses = m }

raised_commute : (a b : ℕ) → raised a b ≡ raised b a
raised_commute a b = omega arith

raised_associate : (a b c : ℕ) → raised (raised a b) c ≡ raised a (raised b c)
raised_associate a b c = omega arith

same : (n n' h h' m m' : ℕ) → n ≡ n' → h ≡ h' → m ≡ m' → stats n h m ≡ stats n' h' m'
same n n' h h' m m' p q r = rw (p, q, r) refl

pub stats_are_added : StatsAreAdded
unfolding stats
stats_are_added = record {
  commute = λ a b. same _ _ _ _ _ _ (raised_commute a.num_entries b.num_entries) (raised_commute a.cache_hits b.cache_hits) (raised_commute a.cache_misses b.cache_misses);
  associate = λ a b c. same _ _ _ _ _ _ (raised_associate a.num_entries b.num_entries c.num_entries) (raised_associate a.cache_hits b.cache_hits c.cache_hits)
      (raised_associate a.cache_misses b.cache_misses c.cache_misses);
}
