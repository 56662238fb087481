use Rattle.store_reader.proofs.CachedBlocksLemmas.{AreCached-with_pair}
use Rattle.store_reader.proofs.cache.BlockCache.put.Goals as goal

pub invariant_of-self : goal.invariant_of-self
invariant_of-self c = rw (c.put.ensures.capacity, c.put.ensures.entries) (AreCached-with_pair _ _ _ _ _ (rw (← c.self.view_is) at c.requires) c.self.invariant)
