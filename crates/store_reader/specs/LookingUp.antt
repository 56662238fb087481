-- A look-up of a block: in the cache, and then in the file.
use Rattle.std.specs.Prelude.{◌≡◌, ◌⊎◌, ℕ, Bool, List, Some, None, Result, Ok, Err}
use Rattle.store_base.specs.Files.{Part}
use Rattle.store_base.specs.declared.error.StoreError.{StoreError}
use Rattle.store_base.specs.declared.error.StoreError.TheVariants.{Memory}
use Rattle.layered_index.specs.declared.checkpoint.Checkpoint.{Checkpoint}
use Rattle.store_reader.specs.Cache.{look_up}
use Rattle.store_format.specs.FileReading.{Comes}
use Rattle.store_reader.specs.CachedBlocks.{CachedBlocks, block_at, after_hit, after_miss, with_block, state_of}

-- The block is kept: it comes with no read, and goes to the front.
pub record IsHit (c : Checkpoint) (file : Part) (cache : CachedBlocks) (came : Result (List ℕ) StoreError) (file' : Part)
    (cache' : CachedBlocks) : Type 0 where
  pub block : List ℕ
  pub kept : block_at c.byte_range.start cache ≡ Some block
  pub given : came ≡ Ok block
  pub file_stays : file' ≡ file
  pub after : cache' ≡ after_hit c.byte_range.start cache

-- the cache after a look-up that did not find the block
abbrev pub cache_missed : ℕ → Result (List ℕ) StoreError → Bool → CachedBlocks → CachedBlocks
cache_missed key (Ok block) is_kept cache = with_block key block is_kept (after_miss cache)
cache_missed key (Err e) is_kept cache = after_miss cache

-- It is not: one read. The bytes that came are kept, unless memory for that was refused.
pub record IsMiss (c : Checkpoint) (file : Part) (cache : CachedBlocks) (came : Result (List ℕ) StoreError) (file' : Part)
    (cache' : CachedBlocks) : Type 0 where
  pub absent : block_at c.byte_range.start cache ≡ None
  pub read : Comes file c.byte_range.start c.byte_range.end came file'
  pub is_kept : Bool
  pub after : cache' ≡ cache_missed c.byte_range.start came is_kept cache

-- A look-up of a checkpoint's block by its first byte: the bytes that came, or why none did. The cache takes the
-- definition's step.
pub record LooksUp (c : Checkpoint) (file : Part) (cache : CachedBlocks) (came : Result (List ℕ) StoreError) (file' : Part)
    (cache' : CachedBlocks) : Type 0 where
  pub cause : IsHit c file cache came file' cache' ⊎ IsMiss c file cache came file' cache'
  pub is_kept : Bool
  pub step : state_of cache' ≡ look_up cache.capacity (state_of cache)
      (record { key = c.byte_range.start; kept = is_kept })

-- A share of the block that came, or no memory for one; where none came, the reason why.
abbrev pub IsShared : Result (List ℕ) StoreError → Result (List ℕ) StoreError → Type 0
IsShared (Ok bytes) (Ok block) = block ≡ bytes
IsShared (Ok bytes) (Err e) = e ≡ Memory
IsShared (Err e) result = result ≡ Err e
