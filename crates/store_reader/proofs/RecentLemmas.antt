-- What look-ups one after the other do, and what they leave.
use Rattle.std.proofs.Common.{◌≡◌, ℕ, ◌+◌, ◌<◌, ◌≤◌, ◌^◌, Bool, true, false, List, [], ◌∷◌, ◌++◌, map, is_some, Option, Some, refl, sym, ap, ◌∙◌, subst, arith, inl, inr}
use Rattle.std.proofs.lemmas.List.{map-append}
use Rattle.std.proofs.lemmas.List.Sums.{fold-append, sum_by-append}
use Rattle.std.specs.Prelude.{if◌then◌else◌, ◌==◌, Result, Ok, Err}
use Rattle.std.specs.List.{list_any, sum_by}
use Rattle.std.specs.Map.{keys_of}
use Rattle.store_base.specs.Counts.{raised}
use Rattle.store_base.specs.Files.{Part}
use Rattle.store_base.specs.declared.error.StoreError.{StoreError}
use Rattle.layered_index.specs.declared.checkpoint.Checkpoint.{Checkpoint}
use Rattle.store_reader.specs.GetAnswer.{IsLookedUp}
use Rattle.store_reader.specs.Cache.{CacheState, LookUp, look_up, recent, misses_along}
use Rattle.store_reader.specs.CachedBlocks.{CachedBlocks, state_of}
use Rattle.store_reader.specs.LookingUp.{LooksUp, cache_missed}
use Rattle.store_reader.specs.Iteration.{keys_along}
use Rattle.store_reader.specs.LookLaws.{bytes_at, AreLookUps, LooksAreRecent, LookUpsAreCounted}
use Rattle.store_reader.specs.Reading.{Reading, IsSameStore}
use Rattle.store_reader.specs.Walking.{LooksAlong}
use Rattle.store_reader.proofs.AskedLemmas.{asked_once, found_bytes}
use Rattle.store_reader.proofs.CachedBlocksLemmas.{any_from_some, apart_from_none}

-- the capacity stays
capacity_missed : (key : ℕ) (came : Result (List ℕ) StoreError) (is_kept : Bool) (cache : CachedBlocks) → (cache_missed key came is_kept cache).capacity ≡ cache.capacity
capacity_missed key (Ok block) is_kept cache = refl
capacity_missed key (Err e) is_kept cache = refl

-- what a look-up leaves of the file and of the capacity, and how often it reads
record Leaves (c : Checkpoint) (file : Part) (cache : CachedBlocks) (file' : Part) (cache' : CachedBlocks) : Type 0 where
  content : file'.content ≡ file.content
  honest : file'.honest ≡ file.honest
  failures : file.failures ≤ file'.failures
  capacity : cache'.capacity ≡ cache.capacity
  reads : file.reads < 2 ^ 64 → file'.reads ≡ raised file.reads (if list_any (λ k. k == c.byte_range.start) (keys_of cache.kept) then 0 else 1)

leaves : (c : Checkpoint) (file : Part) (cache : CachedBlocks) (came : Result (List ℕ) StoreError) (file' : Part) (cache' : CachedBlocks) → LooksUp c file cache came file' cache'
    → Leaves c file cache file' cache'
leaves c file cache came file' cache' l = elim l.cause [
  | inl hit ↦
      let same = hit.file_stays in
      let failures : file'.failures ≡ file.failures = ap (λ (f : Part). f.failures) same in
      let reads : file'.reads ≡ file.reads = ap (λ (f : Part). f.reads) same in
      let any = any_from_some c.byte_range.start cache.kept (ap is_some hit.kept) in
      record {
        content = ap (λ (f : Part). f.content) same;
        honest = ap (λ (f : Part). f.honest) same;
        failures = omega arith;
        capacity = ap (λ (b : CachedBlocks). b.capacity) hit.after;
        reads = λ few. rw any (omega arith);
      }
  | inr miss ↦
      let none = (apart_from_none c.byte_range.start cache.kept (ap is_some miss.absent)).1 in
      record {
        content = miss.read.once.content;
        honest = miss.read.once.honest;
        failures = miss.read.once.failures;
        capacity = ap (λ (b : CachedBlocks). b.capacity) miss.after ∙ capacity_missed c.byte_range.start came miss.is_kept cache;
        reads = λ few. rw none miss.read.once.reads;
      }
]

-- a look-up leaves the store
pub same_store : (old : Reading) (id : ℕ) (c : Checkpoint) (came : Result (List ℕ) StoreError) (new : Reading) → IsLookedUp old id c came new → IsSameStore old new
same_store old id c came new l =
    let left = leaves c old.file old.cache came new.file new.cache l.looks_up in
    record {
      content = left.content;
      honest = left.honest;
      failures = left.failures;
      checkpoints = ap (λ (r : Reading). r.checkpoints) l.stays;
      period = ap (λ (r : Reading). r.period) l.stays;
      version = ap (λ (r : Reading). r.version) l.stays;
      decompressor = ap (λ (r : Reading). r.decompressor) l.stays;
      capacity = left.capacity;
    }

pub same_as_it_is : (r : Reading) → IsSameStore r r
same_as_it_is r = record { content = refl; honest = refl; failures = omega arith; checkpoints = refl; period = refl; version = refl; decompressor = refl; capacity = refl }

pub same_on : (a b c : Reading) → IsSameStore a b → IsSameStore b c → IsSameStore a c
same_on a b c p q = record {
  content = q.content ∙ p.content;
  honest = q.honest ∙ p.honest;
  failures = omega (arith, p.failures, q.failures);
  checkpoints = q.checkpoints ∙ p.checkpoints;
  period = q.period ∙ p.period;
  version = q.version ∙ p.version;
  decompressor = q.decompressor ∙ p.decompressor;
  capacity = q.capacity ∙ p.capacity;
}

pub same_along : (cs : List Checkpoint) (r : Reading) (b : Option (Result (List ℕ) StoreError)) (r' : Reading) (b' : Option (Result (List ℕ) StoreError)) → LooksAlong cs r b r' b' → IsSameStore r r'
same_along [] r b r' b' l = subst (λ (x : Reading). IsSameStore r x) (sym l.0) (same_as_it_is r)
same_along (c ∷ cs) r b r' b' l = same_on r l.0 r' (same_store r c.doc_range.start c l.2.came l.0 l.2.looked) (same_along cs l.0 (Some l.1) r' b' l.3)

-- reads that are counted once and then again
raised_on : (n k m reads : ℕ) → n < 2 ^ 64 → reads ≡ raised (raised n k) m → reads ≡ raised n (k + m)
raised_on n k m reads few e = omega arith

few_raised : (n k : ℕ) → n < 2 ^ 64 → raised n k < 2 ^ 64
few_raised n k few = omega arith

-- how many of some look-ups and then of others don't find their key
misses_then : (capacity : ℕ) (s : CacheState) (ls ms : List LookUp) → misses_along capacity s (ls ++ ms) ≡ misses_along capacity s ls + misses_along capacity (recent capacity s ls) ms
misses_then capacity s [] ms = omega arith
misses_then capacity s (l ∷ ls) ms = omega (arith, misses_then capacity (look_up capacity s l) ls ms)

-- no look-up
pub no_looks : (r : Reading) → AreLookUps [] r r
no_looks r = record { looks = []; order = refl; state = refl; capacity = refl; checkpoints = refl; asked = omega arith; reads = λ few. omega arith }

-- one look-up
pub look_once : (id : ℕ) (c : Checkpoint) (old : Reading) (came : Result (List ℕ) StoreError) (new : Reading) → IsLookedUp old id c came new
    → AreLookUps (c.byte_range.start ∷ []) old new
look_once id c old came new looked =
    let one = looked.looks_up in
    let left = leaves c old.file old.cache came new.file new.cache one in
    record {
      looks = record { key = c.byte_range.start; kept = one.is_kept } ∷ [];
      order = refl;
      state = one.step;
      capacity = left.capacity;
      checkpoints = ap (λ (r : Reading). r.checkpoints) looked.stays;
      asked = omega (arith, asked_once c old.file old.cache came new.file new.cache one, found_bytes old.checkpoints id c looked.seeks);
      reads = λ few. omega (arith, left.reads few);
    }

-- some look-ups, and then others
pub looks_then : (ks ls : List ℕ) (old mid new : Reading) → AreLookUps ks old mid → AreLookUps ls mid new → AreLookUps (ks ++ ls) old new
looks_then ks ls old mid new p q =
    let n = old.cache.capacity in
    let s = state_of old.cache in
    let here = misses_along n s p.looks in
    let rest = misses_along mid.cache.capacity (state_of mid.cache) q.looks in
    let same : rest ≡ misses_along n (recent n s p.looks) q.looks =
    ap (λ (m : ℕ). misses_along m (state_of mid.cache) q.looks) p.capacity ∙ ap (λ (t : CacheState). misses_along n t q.looks) p.state in
    record {
      looks = p.looks ++ q.looks;
      order = map-append (λ (l : LookUp). l.key) p.looks q.looks ∙ ap (λ (xs : List ℕ). xs ++ map (λ (l : LookUp). l.key) q.looks) p.order ∙ ap (λ (ys : List ℕ). ks ++ ys) q.order;
      state = q.state ∙ ap (λ (m : ℕ). recent m (state_of mid.cache) q.looks) p.capacity ∙ ap (λ (t : CacheState). recent n t q.looks) p.state ∙ sym (fold-append (look_up n) s p.looks q.looks);
      capacity = q.capacity ∙ p.capacity;
      checkpoints = q.checkpoints ∙ p.checkpoints;
      asked =
          let later : new.file.asked ≤ mid.file.asked + sum_by (bytes_at old.checkpoints) ls =
          subst (λ (cs : List Checkpoint). new.file.asked ≤ mid.file.asked + sum_by (bytes_at cs) ls) p.checkpoints q.asked in
          omega (arith, p.asked, later, sum_by-append (bytes_at old.checkpoints) ks ls);
      reads = λ few.
          let read = p.reads few in
          let less : mid.file.reads < 2 ^ 64 = subst (λ (k : ℕ). k < 2 ^ 64) (sym read) (few_raised old.file.reads here few) in
          raised_on old.file.reads here rest new.file.reads few (q.reads less ∙ ap (λ (k : ℕ). raised k rest) read)
          ∙ ap (λ (k : ℕ). raised old.file.reads k) (ap (λ (m : ℕ). here + m) same ∙ sym (misses_then n s p.looks q.looks));
    }

pub looks_are_recent : LooksAreRecent
looks_are_recent [] old block new block' l = subst (λ (r : Reading). AreLookUps [] old r) (sym l.0) (no_looks old)
looks_are_recent (c ∷ cs) old block new block' l =
    looks_then (c.byte_range.start ∷ []) (keys_along cs) old l.0 new (look_once c.doc_range.start c old l.2.came l.0 l.2.looked) (looks_are_recent cs l.0 (Some l.1) new block' l.3)

counted_one : (capacity : ℕ) (s : CacheState) (l : LookUp) → s.hits + s.misses + 1 < 2 ^ 64 → (look_up capacity s l).hits + (look_up capacity s l).misses ≡ s.hits + s.misses + 1
counted_one capacity s l few = (elim (list_any (λ k. k == l.key) s.keys) as (λ y. list_any (λ k. k == l.key) s.keys ≡ y
    → (look_up capacity s l).hits + (look_up capacity s l).misses ≡ s.hits + s.misses + 1) [
      | true ↦ λ t. rw t (omega arith)
      | false ↦ λ t. rw t (omega arith)
    ]) refl

pub look_ups_are_counted : LookUpsAreCounted
look_ups_are_counted capacity s [] few = omega arith
look_ups_are_counted capacity s (l ∷ ls) few =
    let one = counted_one capacity s l (omega arith) in
    let on = look_ups_are_counted capacity (look_up capacity s l) ls (omega arith) in
    omega (arith, one, on)
