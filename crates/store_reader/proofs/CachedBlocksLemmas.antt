-- What look-ups do to the blocks that are kept.
use Rattle.std.proofs.Common.{◌≡◌, ℕ, zero, suc, ◌-◌, ◌≤◌, Bool, true, false, not, List, [], ◌∷◌, length, take, Option, Some, None, IsNone, IsSome, is_some, nat_eq, nat_lt, refl, sym, ap, ◌∙◌, subst}
use Rattle.std.proofs.Common.{arith, sub-one}
use Rattle.std.specs.Prelude.{◌==◌, if◌then◌else◌, slice_get}
use Rattle.std.proofs.lemmas.Bool.{eqb-true, eqb-false, eq-eqb, ne_eqb, lt-ltb}
use Rattle.std.specs.List.{AllByRecursion, IsDistinct, filter, list_any}
use Rattle.std.specs.Map.{keys_of, lookup, lookup_entry, remove_entry}
use Rattle.std.specs.Option.{option_map_or}
use Rattle.std.specs.Prelude.{Result, Ok, Err, OnOk, OnErr, is_ok}
use Rattle.lru.specs.LruCache.{LruCache, lru_cache, put_entries, promoted}
use Rattle.store_reader.specs.Cache.{CacheState, look_up, to_front, one_more}
use Rattle.store_reader.specs.CachedBlocks.{CachedBlocks, AreCached, block_at, after_hit, after_miss, with_pair, with_block, state_of}

eq_sym : (a b : ℕ) → nat_eq a b ≡ nat_eq b a
eq_sym a b = (elim (nat_eq b a) as (λ y. nat_eq b a ≡ y → nat_eq a b ≡ y) [
  | true ↦ λ t. eq-eqb a b (sym (eqb-true b a t))
  | false ↦ λ t. ne_eqb a b (λ e. eqb-false b a t (sym e))
]) refl

-- the keys without k, where k is none of them
filter_all : (k : ℕ) (ks : List ℕ) → AllByRecursion (λ y. nat_eq k y ≡ false) ks → filter (λ j. not (j == k)) ks ≡ ks
filter_all k [] a = refl
filter_all k (j ∷ ks) a = rw (eq_sym j k, a.0) (ap (λ l. j ∷ l) (filter_all k ks a.1))

filter-apart : (k : ℕ) (ks : List ℕ) → AllByRecursion (λ y. nat_eq k y ≡ false) (filter (λ j. not (j == k)) ks)
filter-apart k [] = tt
filter-apart k (j ∷ ks) = (elim (nat_eq j k) as (λ y. nat_eq j k ≡ y → AllByRecursion (λ y. nat_eq k y ≡ false) (filter (λ j. not (j == k)) (j ∷ ks))) [
  | true ↦ λ t. rw t (filter-apart k ks)
  | false ↦ λ t. rw t (eq_sym k j ∙ t, filter-apart k ks)
]) refl

All-filter : (P : ℕ → Type 0) (p : ℕ → Bool) (ks : List ℕ) → AllByRecursion P ks → AllByRecursion P (filter p ks)
All-filter P p [] a = tt
All-filter P p (j ∷ ks) a = (elim (p j) as (λ y. p j ≡ y → AllByRecursion P (filter p (j ∷ ks))) [
  | true ↦ λ t. rw t (a.0, All-filter P p ks a.1)
  | false ↦ λ t. rw t (All-filter P p ks a.1)
]) refl

IsDistinct-filter : (p : ℕ → Bool) (ks : List ℕ) → IsDistinct nat_eq ks → IsDistinct nat_eq (filter p ks)
unfolding IsDistinct
IsDistinct-filter p [] d = tt
IsDistinct-filter p (j ∷ ks) d = (elim (p j) as (λ y. p j ≡ y → IsDistinct nat_eq (filter p (j ∷ ks))) [
  | true ↦ λ t. rw t (All-filter (λ y. nat_eq j y ≡ false) p ks d.0, IsDistinct-filter p ks d.1)
  | false ↦ λ t. rw t (IsDistinct-filter p ks d.1)
]) refl

IsDistinct-to_front : (k : ℕ) (ks : List ℕ) → IsDistinct nat_eq ks → IsDistinct nat_eq (to_front k ks)
unfolding IsDistinct
IsDistinct-to_front k ks d = (filter-apart k ks, IsDistinct-filter (λ j. not (j == k)) ks d)

All-take : (P : ℕ → Type 0) (n : ℕ) (ks : List ℕ) → AllByRecursion P ks → AllByRecursion P (take n ks)
All-take P zero ks a = tt
All-take P (suc n) [] a = tt
All-take P (suc n) (k ∷ ks) a = (a.0, All-take P n ks a.1)

IsDistinct-take : (n : ℕ) (ks : List ℕ) → IsDistinct nat_eq ks → IsDistinct nat_eq (take n ks)
unfolding IsDistinct
IsDistinct-take zero ks d = tt
IsDistinct-take (suc n) [] d = tt
IsDistinct-take (suc n) (k ∷ ks) d = (All-take (λ y. nat_eq k y ≡ false) n ks d.0, IsDistinct-take n ks d.1)

module _ {X : Type 0} where
  -- what it is that an entry is found
  record IsFound (k : ℕ) (es : List (ℕ × X)) (e : ℕ × X) : Type 0 where
    key : e.0 ≡ k
    any : list_any (λ j. j == k) (keys_of es) ≡ true
    others : keys_of (remove_entry (nat_eq k) es) ≡ filter (λ j. not (j == k)) (keys_of es)
    size : suc (length (remove_entry (nat_eq k) es)) ≡ length es

  found : (k : ℕ) (es : List (ℕ × X)) (e : ℕ × X) → lookup_entry (nat_eq k) es ≡ Some e → IsDistinct nat_eq (keys_of es) → IsFound k es e
  unfolding IsDistinct
  found k [] e h d = absurd cc
  found k (f ∷ es) e h d = (elim (nat_eq k f.0) as (λ y. nat_eq k f.0 ≡ y → IsFound k (f ∷ es) e) [
    | true ↦ λ t. let h' = rw t at h in let same : f ≡ e = cc in record {
      key = sym (ap (λ p. p.0) same) ∙ sym (eqb-true k f.0 t);
      any = rw (eq_sym f.0 k, t) refl;
      others = rw (t, eq_sym f.0 k, t) (sym (filter_all k (keys_of es) (subst (λ j. AllByRecursion (λ y. nat_eq j y ≡ false) (keys_of es)) (sym (eqb-true k f.0 t)) d.0)));
      size = rw t refl;
    }
    | false ↦ λ t. let on = found k es e (rw t at h) d.1 in record {
      key = on.key;
      any = rw (eq_sym f.0 k, t) on.any;
      others = rw (t, eq_sym f.0 k, t) (ap (λ l. f.0 ∷ l) on.others);
      size = rw t (ap suc on.size);
    }
  ]) refl

  lookup-entry : (test : ℕ → Bool) (es : List (ℕ × X)) → lookup test es ≡ option_map_or (λ e. Some e.1) (lookup_entry test es) None
  lookup-entry test [] = refl
  lookup-entry test (f ∷ es) = (elim (test f.0) as (λ y. test f.0 ≡ y → lookup test (f ∷ es) ≡ option_map_or (λ e. Some e.1) (lookup_entry test (f ∷ es)) None) [
    | true ↦ λ t. rw t refl
    | false ↦ λ t. rw t (lookup-entry test es)
  ]) refl

  -- a key that is looked for is found, by its entry
  with_entry : (k : ℕ) (es : List (ℕ × X)) (P : List (ℕ × X) → Type 0) → IsSome (lookup (nat_eq k) es) → ((e : ℕ × X) → lookup_entry (nat_eq k) es ≡ Some e → P (e ∷ remove_entry (nat_eq k) es))
      → P (promoted (nat_eq k) es)
  with_entry k es P some at = (elim (lookup_entry (nat_eq k) es) as (λ o. lookup_entry (nat_eq k) es ≡ o → P (option_map_or (λ e. e ∷ remove_entry (nat_eq k) es) o es)) [
    | Some e ↦ λ h. at e h
    | None ↦ λ h. let none : IsSome {T = X} None = subst IsSome (lookup-entry (nat_eq k) es ∙ ap (λ o. option_map_or (λ e. Some e.1) o None) h) some in cc
  ]) refl

  pub keys-promoted : (k : ℕ) (es : List (ℕ × X)) → IsDistinct nat_eq (keys_of es) → IsSome (lookup (nat_eq k) es) → keys_of (promoted (nat_eq k) es) ≡ to_front k (keys_of es)
  keys-promoted k es d some = with_entry k es (λ l. keys_of l ≡ to_front k (keys_of es)) some (λ e h. let f = found k es e h d in rw (f.key, f.others) refl)

  pub length-promoted : (k : ℕ) (es : List (ℕ × X)) → IsDistinct nat_eq (keys_of es) → IsSome (lookup (nat_eq k) es) → length (promoted (nat_eq k) es) ≡ length es
  length-promoted k es d some = with_entry k es (λ l. length l ≡ length es) some (λ e h. (found k es e h d).size)

  -- a key that is not found is no key
  pub apart_from_none : (k : ℕ) (es : List (ℕ × X)) → IsNone (lookup (nat_eq k) es) → AllByRecursion (λ y. nat_eq k y ≡ false) (keys_of es) × (list_any (λ j. j == k) (keys_of es) ≡ false)
  apart_from_none k [] n = (tt, refl)
  apart_from_none k (f ∷ es) n = (elim (nat_eq k f.0) as (λ y. nat_eq k f.0 ≡ y → AllByRecursion (λ y. nat_eq k y ≡ false) (keys_of (f ∷ es)) × (list_any (λ j. j == k) (keys_of (f ∷ es)) ≡ false)) [
    | true ↦ λ t. let no = rw t at n in cc
    | false ↦ λ t. let on = apart_from_none k es (rw t at n) in ((t, on.0), rw (eq_sym f.0 k, t) on.1)
  ]) refl

  pub any_from_some : (k : ℕ) (es : List (ℕ × X)) → IsSome (lookup (nat_eq k) es) → list_any (λ j. j == k) (keys_of es) ≡ true
  any_from_some k [] s = cc
  any_from_some k (f ∷ es) s = (elim (nat_eq k f.0) as (λ y. nat_eq k f.0 ≡ y → list_any (λ j. j == k) (keys_of (f ∷ es)) ≡ true) [
    | true ↦ λ t. rw (eq_sym f.0 k, t) refl
    | false ↦ λ t. rw (eq_sym f.0 k, t) (any_from_some k es (rw t at s))
  ]) refl

  take_keys : (n : ℕ) (es : List (ℕ × X)) → keys_of (take n es) ≡ take n (keys_of es)
  take_keys zero es = refl
  take_keys (suc n) [] = refl
  take_keys (suc n) (e ∷ es) = ap (λ l. e.0 ∷ l) (take_keys n es)

  -- P of each pair holds along
  All-removed : (P : ℕ × X → Type 0) (test : ℕ → Bool) (es : List (ℕ × X)) → AllByRecursion P es → AllByRecursion P (remove_entry test es)
  All-removed P test [] a = tt
  All-removed P test (f ∷ es) a = (elim (test f.0) as (λ y. test f.0 ≡ y → AllByRecursion P (remove_entry test (f ∷ es))) [
    | true ↦ λ t. rw t a.1
    | false ↦ λ t. rw t (a.0, All-removed P test es a.1)
  ]) refl

  All-entry : (P : ℕ × X → Type 0) (test : ℕ → Bool) (es : List (ℕ × X)) (e : ℕ × X) → lookup_entry test es ≡ Some e → AllByRecursion P es → P e
  All-entry P test [] e h a = absurd cc
  All-entry P test (f ∷ es) e h a = (elim (test f.0) as (λ y. test f.0 ≡ y → P e) [
    | true ↦ λ t. let h' = rw t at h in let same : f ≡ e = cc in subst P same a.0
    | false ↦ λ t. All-entry P test es e (rw t at h) a.1
  ]) refl

  pub All-promoted : (P : ℕ × X → Type 0) (test : ℕ → Bool) (es : List (ℕ × X)) → AllByRecursion P es → AllByRecursion P (promoted test es)
  All-promoted P test es a = (elim (lookup_entry test es) as (λ o. lookup_entry test es ≡ o → AllByRecursion P (option_map_or (λ e. e ∷ remove_entry test es) o es)) [
    | Some e ↦ λ h. (All-entry P test es e h a, All-removed P test es a)
    | None ↦ λ h. a
  ]) refl

  pub All-lookup_at : (P : ℕ × X → Type 0) (k : ℕ) (es : List (ℕ × X)) (v : X) → lookup (nat_eq k) es ≡ Some v → AllByRecursion P es → P (k, v)
  All-lookup_at P k [] v h a = absurd cc
  All-lookup_at P k (f ∷ es) v h a = (elim (nat_eq k f.0) as (λ y. nat_eq k f.0 ≡ y → P (k, v)) [
    | true ↦ λ t. let h' = rw t at h in let same : f.1 ≡ v = cc in let key : f.0 ≡ k = sym (eqb-true k f.0 t) in subst (λ j. P (j, v)) key (subst (λ w. P (f.0, w)) same a.0)
    | false ↦ λ t. All-lookup_at P k es v (rw t at h) a.1
  ]) refl

  pub All-taken : (P : ℕ × X → Type 0) (n : ℕ) (es : List (ℕ × X)) → AllByRecursion P es → AllByRecursion P (take n es)
  All-taken P zero es a = tt
  All-taken P (suc n) [] a = tt
  All-taken P (suc n) (e ∷ es) a = (a.0, All-taken P n es a.1)

length_take_at_most : {X : Type 0} (n : ℕ) (xs : List X) → length (take n xs) ≤ n
length_take_at_most zero xs = omega arith
length_take_at_most (suc n) [] = omega arith
length_take_at_most (suc n) (x ∷ xs) = omega (arith, length_take_at_most n xs)

-- where a key is not found, nothing is brought to the front
pub promoted_none : {X : Type 0} (k : ℕ) (es : List (ℕ × X)) → lookup (nat_eq k) es ≡ None → promoted (nat_eq k) es ≡ es
promoted_none {X} k es none = (elim (lookup_entry (nat_eq k) es) as (λ o. lookup_entry (nat_eq k) es ≡ o → option_map_or (λ e. e ∷ remove_entry (nat_eq k) es) o es ≡ es) [
  | Some e ↦ λ h. let found : Some e.1 ≡ None = sym (lookup-entry (nat_eq k) es ∙ ap (λ o. option_map_or (λ e. Some e.1) o None) h) ∙ none in cc
  | None ↦ λ h. refl
]) refl

-- where the pair in front has the key, its block is found, and nothing moves
pub front_found : {X : Type 0} (k front : ℕ) (x : X) (es : List (ℕ × X)) → Some (front, x) ≡ slice_get es 0 → front ≡ k → (lookup (nat_eq k) es ≡ Some x) × (promoted (nat_eq k) es ≡ es)
front_found {X} k front x [] at same = absurd cc
front_found {X} k front x (e ∷ es) at same =
    let is : (front, x) ≡ e = cc in
    let key : nat_eq k e.0 ≡ true = eq-eqb k e.0 (sym same ∙ ap (λ (p : ℕ × X). p.0) is) in
    rw key (ap (λ (p : ℕ × X). Some p.1) (sym is), refl)

pub AreCached-promoted : (k capacity : ℕ) (es : List (ℕ × List ℕ)) → AreCached capacity es → AreCached capacity (promoted (nat_eq k) es)
AreCached-promoted k capacity es a = (elim (lookup (nat_eq k) es) as (λ o. lookup (nat_eq k) es ≡ o → AreCached capacity (promoted (nat_eq k) es)) [
  | Some v ↦ λ h. let some : IsSome (lookup (nat_eq k) es) = rw h refl in record {
    distinct = subst (IsDistinct nat_eq) (sym (keys-promoted k es a.distinct some)) (IsDistinct-to_front k (keys_of es) a.distinct);
    few = omega (arith, length-promoted k es a.distinct some, a.few);
  }
  | None ↦ λ h. rw (promoted_none k es h) a
]) refl

zero-lt : (n : ℕ) → nat_lt 0 (suc n) ≡ true
zero-lt n = lt-ltb 0 (suc n) (omega arith)

-- a pair in front of the kept ones, at a capacity
room_for : (n k : ℕ) (block : List ℕ) (es : List (ℕ × List ℕ)) → List (ℕ × List ℕ)
room_for n k block es = if nat_lt 0 n then (k, block) ∷ take (n - 1) es else es

distinct_in : (n k : ℕ) (block : List ℕ) (es : List (ℕ × List ℕ)) → AllByRecursion (λ y. nat_eq k y ≡ false) (keys_of es) → IsDistinct nat_eq (keys_of es)
    → IsDistinct nat_eq (keys_of (room_for n k block es))
unfolding IsDistinct room_for
distinct_in zero k block es apart d = d
distinct_in (suc n) k block es apart d = rw (zero-lt, sub-one) (subst (λ ks. IsDistinct nat_eq (k ∷ ks)) (sym (take_keys n es)) (
  All-take (λ y. nat_eq k y ≡ false) n (keys_of es) apart,
  IsDistinct-take n (keys_of es) d,
))

few_in : (n k : ℕ) (block : List ℕ) (es : List (ℕ × List ℕ)) → length es ≤ n → length (room_for n k block es) ≤ n
unfolding room_for
few_in zero k block es le = le
few_in (suc n) k block es le = rw (zero-lt, sub-one) (omega (arith, length_take_at_most n es))

keys_in : (n k : ℕ) (block : List ℕ) (es : List (ℕ × List ℕ)) → keys_of (room_for n k block es) ≡ if nat_lt 0 n then take n (k ∷ keys_of es) else keys_of es
unfolding room_for
keys_in zero k block es = refl
keys_in (suc n) k block es = rw (zero-lt, sub-one) (ap (λ ks. k ∷ ks) (take_keys n es))

pub AreCached-with_pair : (capacity k : ℕ) (block : List ℕ) (is_kept : Bool) (es : List (ℕ × List ℕ)) → lookup (nat_eq k) es ≡ None → AreCached capacity es
    → AreCached capacity (with_pair capacity k block is_kept es)
unfolding room_for
AreCached-with_pair capacity k block true es none a = record {
  distinct = distinct_in capacity k block es
      (apart_from_none k es (ap is_some none)).0 a.distinct;
  few = few_in capacity k block es a.few;
}
AreCached-with_pair capacity k block false es none a = a

-- a look-up that finds its key is the definition's, whatever it says of keeping
pub state-after_hit : (k : ℕ) (is_kept : Bool) (b : CachedBlocks) → IsSome (block_at k b) → AreCached b.capacity b.kept
    → state_of (after_hit k b) ≡ look_up b.capacity (state_of b) (record { key = k; kept = is_kept })
state-after_hit k is_kept b some a = rw (any_from_some k b.kept some, keys-promoted k b.kept a.distinct some) refl

state : ℕ → ℕ → List ℕ → CacheState
state hits misses ks = record { keys = ks; hits = hits; misses = misses }

-- and so is one that does not find it, with the block kept or not
pub state-after_miss : (k : ℕ) (block : List ℕ) (is_kept : Bool) (b : CachedBlocks) → block_at k b ≡ None
    → state_of (with_block k block is_kept (after_miss b)) ≡ look_up b.capacity (state_of b) (record { key = k; kept = is_kept })
unfolding state room_for
state-after_miss k block false b none = rw ((apart_from_none k b.kept (ap is_some none)).1) refl
state-after_miss k block true b none = rw ((apart_from_none k b.kept (ap is_some none)).1) (ap (state b.hits (one_more b.misses)) (keys_in b.capacity k block b.kept))

-- what `put` leaves where the key is not there
pub entries-put : {E : Type 0} (k : ℕ) (block : List ℕ) (old new : LruCache ℕ (List ℕ)) (r : Result (Option (List ℕ)) E) → lookup (nat_eq k) old.entries ≡ None
    → OnOk r (new ≡ lru_cache (put_entries nat_eq old k block) old.cap) → OnErr r (new ≡ old) → new.entries ≡ if is_ok r then (k, block) ∷ take (old.cap - 1) old.entries else old.entries
entries-put k block old new (Ok v) none ok err = ap (λ c. c.entries) ok ∙ put_none (lookup_entry (nat_eq k) old.entries) refl
  where
    put_none : (o : Option (ℕ × List ℕ)) → lookup_entry (nat_eq k) old.entries ≡ o → put_entries nat_eq old k block ≡ (k, block) ∷ take (old.cap - 1) old.entries
    put_none None h = rw h refl
    put_none (Some e) h = let found : Some e.1 ≡ None = sym (lookup-entry (nat_eq k) old.entries ∙ ap (λ o. option_map_or (λ e. Some e.1) o None) h) ∙ none in cc
entries-put k block old new (Err e) none ok err = ap (λ c. c.entries) err
