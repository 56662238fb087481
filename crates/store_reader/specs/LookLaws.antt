-- What look-ups one after the other do, and which blocks an iteration has looked up.
use Rattle.std.specs.Prelude.{◌≡◌, ℕ, ◌+◌, ◌<◌, ◌≤◌, ◌^◌, ◌==◌, if◌then◌else◌, Bool, true, List, length, map, take}
use Rattle.std.specs.Prelude.{Option, Result}
use Rattle.std.specs.List.{sum_by}
use Rattle.store_base.specs.Counts.{raised}
use Rattle.store_base.specs.declared.error.StoreError.{StoreError}
use Rattle.layered_index.specs.declared.checkpoint.Checkpoint.{Checkpoint}
use Rattle.store_reader.specs.declared.walk.Walk.{Walk}
use Rattle.store_reader.specs.Cache.{CacheState, LookUp, recent, misses_along}
use Rattle.layered_index.specs.Checkpoint.{byte_len, Covers}
use Rattle.store_reader.specs.Iteration.{is_in, looked_along, alive_below, keys_along}
use Rattle.store_reader.specs.CachedBlocks.{state_of}
use Rattle.store_reader.specs.Reading.{Reading, num_docs}
use Rattle.store_reader.specs.Walking.{IsWalk, LooksAlong}

-- how many bytes the block has that begins with this one
abbrev pub bytes_at : List Checkpoint → ℕ → ℕ
bytes_at cs key = sum_by (λ c. if c.byte_range.start == key then byte_len c else 0) cs

-- Look-ups of these keys in order, with what became of each. The file was read once for each that didn't find its key;
-- its count is one of 64 bits. No more bytes were asked for than their blocks have.
pub record AreLookUps (keys : List ℕ) (old new : Reading) : Type 0 where
  pub looks : List LookUp
  pub order : map (λ l. l.key) looks ≡ keys
  pub state : state_of new.cache ≡ recent old.cache.capacity (state_of old.cache) looks
  pub capacity : new.cache.capacity ≡ old.cache.capacity
  pub checkpoints : new.checkpoints ≡ old.checkpoints
  pub asked : new.file.asked ≤ old.file.asked + sum_by (bytes_at old.checkpoints) keys
  pub reads : old.file.reads < 2 ^ 64 → new.file.reads
      ≡ raised old.file.reads (misses_along old.cache.capacity (state_of old.cache) looks)

-- Blocks that are looked up one after the other are look-ups of their first bytes.
abbrev pub LooksAreRecent : Type 0
LooksAreRecent = (cs : List Checkpoint) (old : Reading) (block : Option (Result (List ℕ) StoreError)) (new : Reading)
    (block' : Option (Result (List ℕ) StoreError))
    → LooksAlong cs old block new block' → AreLookUps (keys_along cs) old new

-- Where an iteration stands after an item, it has looked up what the definition says for this many items; and where it
-- has come to the
-- end, for any greater number.
pub record IsLooked (r : Reading) (w : Walk) (set : Option (ℕ → Bool)) : Type 0 where
  pub none : w.place ≡ length (take 1 r.checkpoints) → keys_along (take w.place r.checkpoints)
      ≡ looked_along r.checkpoints set 0
  pub item : (id : ℕ) → w.next ≡ id + 1 → w.first ≤ id → is_in set id ≡ true
      → keys_along (take w.place r.checkpoints) ≡ looked_along r.checkpoints set (alive_below set w.next)
  pub all : (count : ℕ) → w.next ≡ num_docs r → alive_below set (num_docs r) < count
      → keys_along (take w.place r.checkpoints) ≡ looked_along r.checkpoints set count

abbrev pub WalksLookUp : Type 0
WalksLookUp = (r : Reading) (w : Walk) (set : Option (ℕ → Bool)) → Covers r.checkpoints (length r.file.content)
    → IsWalk r w → IsLooked r w set

-- Each look-up is a hit or a miss, and counted as one, while the counts are below their greatest value.
abbrev pub LookUpsAreCounted : Type 0
LookUpsAreCounted = (capacity : ℕ) (s : CacheState) (looks : List LookUp) → s.hits + s.misses + length looks < 2 ^ 64
    → (recent capacity s looks).hits + (recent capacity s looks).misses ≡ s.hits + s.misses + length looks
