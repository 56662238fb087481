-- Look-ups of blocks.
use Rattle.std.proofs.lemmas.Bool.{lt-ltb}
use Rattle.std.proofs.Common.{◌≡◌, ℕ, zero, suc, ◌-◌, Bool, true, false, List, [], ◌∷◌, length, Option, Some, None, nat_eq, refl, sym, ap, ◌∙◌, subst, arith, inl, inr}
use Rattle.std.specs.Prelude.{Result, Ok, Err, IsTrue, IfOk, IsSomeAnd}
use Rattle.std.specs.List.{AllByRecursion}
use Rattle.store_base.specs.Files.{Part}
use Rattle.layered_index.specs.declared.checkpoint.Checkpoint.{Checkpoint}
use Rattle.store_base.specs.declared.error.StoreError.{StoreError}
use Rattle.layered_index.specs.Checkpoint.{Covers, first_past}
use Rattle.store_reader.specs.Cache.{look_up}
use Rattle.store_format.specs.FileReading.{Comes}
use Rattle.store_reader.specs.CachedBlocks.{CachedBlocks, block_at, after_hit, with_pair, state_of}
use Rattle.store_reader.specs.LookingUp.{LooksUp, cache_missed}
use Rattle.store_reader.specs.Reading.{IsReader, HasPart, part_of}
use Rattle.store_reader.proofs.CachedBlocksLemmas.{state-after_miss, All-promoted, All-lookup_at, All-taken}
use Rattle.store_reader.proofs.SeekLemmas.{one_start, All-found}

-- the block was kept, and answers
pub look_up_by_hit : (c : Checkpoint) (file : Part) (cache cache' : CachedBlocks) (P : List ℕ → Type 0)
    → IsSomeAnd (block_at c.byte_range.start cache) P → cache' ≡ after_hit c.byte_range.start cache
    → state_of cache' ≡ look_up cache.capacity (state_of cache) (record { key = c.byte_range.start; kept = true })
    → (block : List ℕ) × LooksUp c file cache (Ok block) file cache' × P block
look_up_by_hit c file cache cache' P some after step = go (block_at c.byte_range.start cache) refl some
  where
    go : (o : Option (List ℕ)) → block_at c.byte_range.start cache ≡ o → IsSomeAnd o P → (block : List ℕ) × LooksUp c file cache (Ok block) file cache' × P block
    go None e s = absurd s
    go (Some block) e s = (block, record { cause = inl (record { block = block; kept = e; given = refl; file_stays = refl; after = after }); is_kept = true; step = step }, s)

-- it was not, and a read was tried
pub look_up_by_miss : (c : Checkpoint) (file file' : Part) (cache cache' : CachedBlocks) (came : Result (List ℕ) StoreError) (is_kept : Bool)
    → block_at c.byte_range.start cache ≡ None → Comes file c.byte_range.start c.byte_range.end came file'
    → cache' ≡ cache_missed c.byte_range.start came is_kept cache
    → LooksUp c file cache came file' cache'
look_up_by_miss c file file' cache cache' (Ok block) is_kept absent read after = record {
  cause = inr (record { absent = absent; read = read; is_kept = is_kept; after = after });
  is_kept = is_kept;
  step = ap state_of after ∙ state-after_miss c.byte_range.start block is_kept cache absent;
}
look_up_by_miss c file file' cache cache' (Err e) is_kept absent read after = record {
  cause = inr (record { absent = absent; read = read; is_kept = is_kept; after = after });
  is_kept = false;
  step = ap state_of after ∙ state-after_miss c.byte_range.start [] false cache absent;
}

-- a block that came is the data's part, and the kept blocks stay the data's parts
pub record StaysHonest (file : Part) (cs : List Checkpoint) (c : Checkpoint) (came : Result (List ℕ) StoreError) (cache' : CachedBlocks) : Type 0 where
  pub given : IsTrue file.honest → IfOk came (λ block. block ≡ part_of file.content c)
  pub kept : IsTrue file.honest → AllByRecursion (HasPart file.content cs) cache'.kept

-- the part of the checkpoint that was found is a part by its key
own_part : (content : List ℕ) (cs : List Checkpoint) (target : ℕ) (c : Checkpoint) → Covers cs (length content) → first_past cs target ≡ Some c
    → HasPart content cs (c.byte_range.start, part_of content c)
own_part content cs target c covers seeks = each cs (one_start 0 0 cs target c covers.in_line covers.filled seeks)
  where
    each : (xs : List Checkpoint) → AllByRecursion (λ x. x.byte_range.start ≡ c.byte_range.start → c ≡ x) xs
        → AllByRecursion (λ x. x.byte_range.start ≡ c.byte_range.start → part_of content c ≡ part_of content x) xs
    each [] a = tt
    each (x ∷ xs) a = (λ same. ap (part_of content) (a.0 same), each xs a.1)

pub stays_honest : (file file' : Part) (cs : List Checkpoint) (period target : ℕ) (c : Checkpoint) (cache cache' : CachedBlocks) (came : Result (List ℕ) StoreError)
    → IsReader file cs period cache → first_past cs target ≡ Some c → LooksUp c file cache came file' cache' → StaysHonest file cs c came cache'
stays_honest file file' cs period target c cache cache' came reader seeks looks = elim looks.cause [
  | inl hit ↦ record {
    given = λ honest. let here = All-lookup_at (HasPart file.content cs) c.byte_range.start cache.kept hit.block hit.kept (reader.holds honest) in
        subst (λ r. IfOk r (λ block. block ≡ part_of file.content c)) (sym hit.given) (All-found _ cs target c seeks here refl);
    kept = λ honest. subst (λ (b : CachedBlocks). AllByRecursion (HasPart file.content cs) b.kept) (sym hit.after) (All-promoted _ (nat_eq c.byte_range.start) cache.kept (reader.holds honest));
  }
  | inr miss ↦ record {
    given = miss.read.bytes;
    kept = λ honest. subst (λ (b : CachedBlocks). AllByRecursion (HasPart file.content cs) b.kept) (sym miss.after) (missed came miss.is_kept (reader.holds honest) (miss.read.bytes honest));
  }
]
  where
    kept_so : (is_kept : Bool) (n : ℕ) (block : List ℕ) → HasPart file.content cs (c.byte_range.start, block) → (es : List (ℕ × List ℕ)) → AllByRecursion (HasPart file.content cs) es
        → AllByRecursion (HasPart file.content cs) (with_pair n c.byte_range.start block is_kept es)
    kept_so false n block here es a = a
    kept_so true zero block here es a = a
    kept_so true (suc n) block here es a = rw (lt-ltb 0 (suc n) (omega arith)) (here, All-taken (HasPart file.content cs) (suc n - 1) es a)

    missed : (came : Result (List ℕ) StoreError) (is_kept : Bool) → AllByRecursion (HasPart file.content cs) cache.kept → IfOk came (λ block. block ≡ part_of file.content c)
        → AllByRecursion (HasPart file.content cs) (cache_missed c.byte_range.start came is_kept cache).kept
    missed (Ok block) is_kept a part = kept_so is_kept cache.capacity block (subst (λ b. HasPart file.content cs (c.byte_range.start, b)) (sym part)
        (own_part file.content cs target c reader.covers seeks)) cache.kept a
    missed (Err e) is_kept a part = a

-- a look-up changes neither the bytes of the data nor whether reads give them
pub same_file : (c : Checkpoint) (file file' : Part) (cache cache' : CachedBlocks) (came : Result (List ℕ) StoreError) → LooksUp c file cache came file' cache'
    → (file'.content ≡ file.content) × (file'.honest ≡ file.honest)
same_file c file file' cache cache' came looks = elim looks.cause [
  | inl hit ↦ (ap (λ (f : Part). f.content) hit.file_stays, ap (λ (f : Part). f.honest) hit.file_stays)
  | inr miss ↦ (miss.read.once.content, miss.read.once.honest)
]

-- what always holds of a reader holds after a look-up
pub reader_after : (file file' : Part) (cs : List Checkpoint) (period target : ℕ) (c : Checkpoint) (cache cache' : CachedBlocks) (came : Result (List ℕ) StoreError)
    → IsReader file cs period cache → first_past cs target ≡ Some c → LooksUp c file cache came file' cache' → IsReader file' cs period cache'
reader_after file file' cs period target c cache cache' came reader seeks looks =
    let same = same_file c file file' cache cache' came looks in
    record {
      covers = subst (λ (bytes : List ℕ). Covers cs (length bytes)) (sym same.0) reader.covers;
      two = reader.two;
      few = reader.few;
      holds = λ honest. subst (λ (bytes : List ℕ). AllByRecursion (HasPart bytes cs) cache'.kept) (sym same.0)
          ((stays_honest file file' cs period target c cache cache' came reader seeks looks).kept (subst IsTrue same.1 honest));
    }
