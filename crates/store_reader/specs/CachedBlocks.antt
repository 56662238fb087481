-- The blocks that a cache keeps, and what its calls leave.
use Rattle.std.specs.Prelude.{ℕ, ◌≤◌, ◌-◌, Bool, ◌&&◌, nat_eq, nat_lt, if◌then◌else◌, List, [], ◌∷◌, length, take}
use Rattle.std.specs.Prelude.{slice_get, Option, Some, None}
use Rattle.std.specs.List.{IsDistinct}
use Rattle.std.specs.Map.{keys_of, lookup}
use Rattle.lru.specs.LruCache.{LruCache, promoted}
use Rattle.store_reader.specs.Cache.{CacheState, one_more}

-- how many blocks it may keep; the blocks by their keys, the one that was used last first; how many look-ups found
-- their key and how many did not
pub record CachedBlocks : Type 0 where
  pub capacity : ℕ
  pub kept : List (ℕ × List ℕ)
  pub hits : ℕ
  pub misses : ℕ

-- no key stands twice, and there are no more blocks than the capacity
pub record AreCached (capacity : ℕ) (kept : List (ℕ × List ℕ)) : Type 0 where
  pub distinct : IsDistinct nat_eq (keys_of kept)
  pub few : length kept ≤ capacity

-- nothing kept, and nothing looked up
abbrev pub no_blocks : ℕ → CachedBlocks
no_blocks capacity = record { capacity = capacity; kept = []; hits = 0; misses = 0 }

-- what a look-up of this key finds
abbrev pub block_at : ℕ → CachedBlocks → Option (List ℕ)
block_at key b = lookup (nat_eq key) b.kept

-- the key of the block that was not used for the longest time
abbrev pub last_key : CachedBlocks → Option ℕ
last_key b = slice_get (keys_of b.kept) (length b.kept - 1)

-- after a look-up that found its key, and after one that did not
abbrev pub after_hit : ℕ → CachedBlocks → CachedBlocks
after_hit key b = record {
  capacity = b.capacity;
  kept = promoted (nat_eq key) b.kept;
  hits = one_more b.hits;
  misses =
      b.misses;
}

abbrev pub after_miss : CachedBlocks → CachedBlocks
after_miss b = record { capacity = b.capacity; kept = b.kept; hits = b.hits; misses = one_more b.misses }

-- with this block in front, if memory for it was not refused and the capacity is not 0
abbrev pub with_pair : ℕ → ℕ → List ℕ → Bool → List (ℕ × List ℕ) → List (ℕ × List ℕ)
with_pair capacity key block is_kept kept = if is_kept && nat_lt 0 capacity then (key, block)
    ∷ take (capacity - 1) kept else kept

abbrev pub with_block : ℕ → List ℕ → Bool → CachedBlocks → CachedBlocks
with_block key block is_kept b = record {
  capacity = b.capacity;
  kept =
      with_pair b.capacity key block is_kept b.kept;
  hits = b.hits;
  misses = b.misses;
}

-- the state as the definition of a look-up has it
abbrev pub state_of : CachedBlocks → CacheState
state_of b = record { keys = keys_of b.kept; hits = b.hits; misses = b.misses }

-- what there may be of a cache
abbrev pub capacity_of : Option (LruCache ℕ (List ℕ)) → ℕ
capacity_of None = 0
capacity_of (Some c) = c.cap

abbrev pub entries_of : Option (LruCache ℕ (List ℕ)) → List (ℕ × List ℕ)
entries_of None = []
entries_of (Some c) = c.entries
