-- Neighbours that can become one, as they are looked for.
use Rattle.std.proofs.Common.{◌≡◌, ℕ, zero, suc, ◌+◌, ◌-◌, ◌<◌, ◌≤◌, List, [], ◌∷◌, ◌++◌, length, take, drop, map, get_or, Some, None}
use Rattle.std.proofs.Common.{refl, sym, ◌∙◌, ap, subst, arith, length-append}
use Rattle.std.specs.Prelude.{All, slice_get}
use Rattle.std.proofs.lemmas.List.Elements.{All-nil, All-cons}
use Rattle.std.specs.List.{Contains}
use Rattle.std.proofs.lemmas.List.{length-map, length-take-le, take-append-drop, take-map, map-append, drop_at, take_at}
use Rattle.std.proofs.lemmas.Grind.{flat_map-append}
use Rattle.store_format.specs.Block.{Slot}
use Rattle.store_reader.specs.Reading.{Reading, IsSeen, store_of}
use Rattle.segmented_log.specs.Parts.{Part, Sealed, sealed_of, parts_of, end_of, end_from}
use Rattle.segmented_log.specs.Compacting.{slots_in, AreNext, IsRun, one_of, IsOfStore, BecomesOne, CoversFirst, IsPassedByFirst, CoversNext, CanBecomeOne, IsStep, Compacts, stay, join, remove_next}
use Rattle.segmented_log.specs.Compacting.{IsCovered, CanJoin, CanJoinFirst, AreApart}
use Rattle.segmented_log.specs.Dropping.{CanGo}
use Rattle.segmented_log.proofs.PartLemmas.{end_from-push}
use Rattle.segmented_log.proofs.RunOfParts.{with_joined, run_set}
use Rattle.segmented_log.proofs.SlotLemmas.{in_joined, in_left}

-- where parts end that follow one another from a number on
abbrev pub end_after : ℕ → List Part → ℕ
end_after n [] = n
end_after n (p ∷ parts) = end_after (end_of p) parts

pub next_more : (n : ℕ) (parts more : List Part) (p : Part) → more ≡ parts ++ p ∷ [] → AreNext n parts → p.first ≡ end_after n parts → AreNext n more
next_more n parts more p is next at = subst (AreNext n) (sym is) (by n parts next at)
  where
    by : (m : ℕ) (some : List Part) → AreNext m some → p.first ≡ end_after m some → AreNext m (some ++ p ∷ [])
    by m [] none here = (here, tt)
    by m (q ∷ some) all here = (all.0, by (end_of q) some all.1 here)

pub end_more : (n : ℕ) (parts more : List Part) (p : Part) → more ≡ parts ++ p ∷ [] → end_after n more ≡ end_of p
end_more n parts more p is = ap (end_after n) is ∙ by n parts
  where
    by : (m : ℕ) (some : List Part) → end_after m (some ++ p ∷ []) ≡ end_of p
    by m [] = refl
    by m (q ∷ some) = by (end_of q) some

end_is : (n : ℕ) (parts : List Part) → AreNext n parts → end_from n parts ≡ end_after n parts
end_is n [] next = refl
end_is n (p ∷ parts) next = ap (λ (m : ℕ). end_from m parts) (omega (arith, next.0)) ∙ end_is (end_of p) parts next.1

-- one more is sealed
pub next_sealed : (n : ℕ) (parts more : List Part) (p : Part) → more ≡ parts ++ p ∷ [] → AreNext n parts → p.first ≡ end_from n parts → AreNext n more
next_sealed n parts more p is next at = next_more n parts more p is next (at ∙ end_is n parts next)

-- the first is dropped
pub next_dropped : (first number next tail_first : ℕ) (parts : List Part) → CanGo first number parts tail_first next → AreNext first parts → AreNext next (drop 1 parts)
next_dropped first number next tail_first [] can all = absurd can
next_dropped first number next tail_first (p ∷ parts) can all = subst (λ (n : ℕ). AreNext n parts) (omega (arith, can.1, all.0)) all.1

-- where one of them does not end after a number, those before it don't
pub ends_to : {X : Type 0} (f : X → Part) (number n i : ℕ) (xs : List X) (x : X) → AreNext n (map f xs) → i < length xs → x ≡ get_or xs i x → end_of (f x) ≤ number
    → All (λ y. end_of (f y) ≤ number) (take (suc i) xs)
ends_to {X} f number n i xs x next within is ends = by n i xs next within is
  where
    from : (m j : ℕ) (ys : List X) → AreNext m (map f ys) → j < length ys → x ≡ get_or ys j x → m ≤ end_of (f x)
    from m j [] all some here = absurd (omega (arith, some))
    from m zero (y ∷ ys) all some here = omega (arith, all.0, ap (λ (z : X). end_of (f z)) here)
    from m (suc j) (y ∷ ys) all some here = omega (arith, all.0, from (end_of (f y)) j ys all.1 (omega (arith, some)) here)

    by : (m j : ℕ) (ys : List X) → AreNext m (map f ys) → j < length ys → x ≡ get_or ys j x → All (λ y. end_of (f y) ≤ number) (take (suc j) ys)
    by m j [] all some here = absurd (omega (arith, some))
    by m zero (y ∷ ys) all some here = All-cons (λ z. end_of (f z) ≤ number) y [] (omega (arith, ends, ap (λ (z : X). end_of (f z)) here)) (All-nil (λ z. end_of (f z) ≤ number))
    by m (suc j) (y ∷ ys) all some here =
        let more : j < length ys = omega (arith, some) in
        All-cons (λ z. end_of (f z) ≤ number) y (take (suc j) ys) (omega (arith, ends, from (end_of (f y)) j ys all.1 more here)) (by (end_of (f y)) j ys all.1 more here)

-- a thing of some, those before it and those after it
pub split_place : {X Y : Type 0} (f : X → Y) (xs : List X) (i : ℕ) (x : X) → i < length xs → x ≡ get_or xs i x → map f xs ≡ map f (take i xs) ++ f x ∷ map f (drop (suc i) xs)
split_place f [] i x within is = absurd (omega (arith, within))
split_place f (y ∷ ys) zero x within is = λ j. f (sym is j) ∷ map f ys
split_place {X} {Y} f (y ∷ ys) (suc i) x within is = ap (λ (l : List Y). f y ∷ l) (split_place f ys i x (omega (arith, within)) is)

pub place_of : {X Y : Type 0} (f : X → Y) (xs : List X) (i : ℕ) → i < length xs → length (map f (take i xs)) ≡ i
place_of f xs i within = length-map (take i xs) f ∙ length-take-le i xs (omega (arith, within))

-- some that follow a thing
pub run_at : {X : Type 0} (f : X → Part) (xs others : List X) (i count : ℕ) (x : X) → i < length xs → x ≡ get_or xs i x → others ≡ drop (suc i) xs → count ≤ length others
    → AreNext (end_of (f x)) (map f (take count others)) → IsRun (map f xs) i count
run_at {X} f xs others i count x within is rest few next =
    let both : map f others ≡ map f (take count others) ++ map f (drop count others) =
    ap (map f) (sym (take-append-drop count others)) ∙ map-append f (take count others) (drop count others) in
    record {
      before = map f (take i xs);
      head = f x;
      run = map f (take count others);
      after = map f (drop count others);
      split = split_place f xs i x within is ∙ ap (λ (l : List X). map f (take i xs) ++ f x ∷ map f l) (sym rest) ∙ ap (λ (l : List Part). map f (take i xs) ++ f x ∷ l) both;
      place_is = place_of f xs i within;
      count_is = length-map (take count others) f ∙ length-take-le count others few;
      next = next;
    }

-- a run as it is taken from the parts
pub run_taken : (parts : List Part) (place count : ℕ) (r : IsRun parts place count) → take (count + 1) (drop place parts) ≡ r.head ∷ r.run
run_taken parts place count r =
    let size : length (r.head ∷ r.run) ≡ count + 1 = omega (arith, r.count_is) in
    ap (λ (l : List Part). take (count + 1) (drop place l)) r.split
    ∙ ap (λ (l : List Part). take (count + 1) l) (drop_at r.before (r.head ∷ (r.run ++ r.after)) place r.place_is)
    ∙ take_at (r.head ∷ r.run) r.after (count + 1) size

-- a thing and those that follow it
pub taken_at : {X Y : Type 0} (f : X → Y) (xs others : List X) (i count : ℕ) (x : X) → i < length xs → x ≡ get_or xs i x → others ≡ drop (suc i) xs
    → take (count + 1) (drop i (map f xs)) ≡ f x ∷ map f (take count others)
taken_at {X} {Y} f xs others i count x within is rest =
    let next : count + 1 ≡ suc count = omega arith in
    ap (λ (n : ℕ). take n (drop i (map f xs))) next
    ∙ ap (λ (l : List Y). take (suc count) l) (from xs i within is rest)
    ∙ ap (λ (l : List Y). f x ∷ l) (take-map f count others)
  where
    from : (ys : List X) (j : ℕ) → j < length ys → x ≡ get_or ys j x → others ≡ drop (suc j) ys → drop j (map f ys) ≡ f x ∷ map f others
    from [] j some here after = absurd (omega (arith, some))
    from (y ∷ ys) zero some here after = λ k. f (sym here k) ∷ map f (sym after k)
    from (y ∷ ys) (suc j) some here after = from ys j (omega (arith, some)) here after

-- the slots of parts and one more
pub slots_more : (parts more : List Part) (p : Part) → more ≡ parts ++ p ∷ [] → length (slots_in more) ≡ length (slots_in parts) + length p.slots
slots_more parts more p is =
    omega (
      arith,
      ap (λ (l : List Part). length (slots_in l)) is,
      ap length (flat_map-append (λ (q : Part). q.slots) parts (p ∷ [])),
      length-append (slots_in parts) (p.slots ++ []),
      length-append p.slots [],
    )

-- a thing that covers the first of those after it
pub covers_at : {X : Type 0} (f : X → Part) (xs others : List X) (i : ℕ) (x : X) → i < length xs → x ≡ get_or xs i x → others ≡ drop (suc i) xs → CoversFirst (f x) (map f others)
    → CoversNext (map f xs) i
covers_at {X} f xs others i x within is rest covers = by others rest covers
  where
    by : (some : List X) → some ≡ drop (suc i) xs → CoversFirst (f x) (map f some) → CoversNext (map f xs) i
    by [] same none = absurd none
    by (y ∷ ys) same ends = record {
      before = map f (take i xs);
      head = f x;
      covered = f y;
      after = map f ys;
      split = split_place f xs i x within is ∙ ap (λ (l : List X). map f (take i xs) ++ f x ∷ map f l) (sym same);
      place_is = place_of f xs i within;
      ends = ends;
    }

-- ---- where no segment can follow

-- ---- neighbours that are apart

-- so far, up to this place
abbrev pub AreApartTo : ℕ → ℕ → List Sealed → Type 0
AreApartTo to size segments = (i : ℕ) (a b : Sealed) → i < to → slice_get segments i ≡ Some a → slice_get segments (i + 1) ≡ Some b
    → (end_of a.part < end_of b.part) × (CanJoin size a b → ⊥)

some_is : (a b : Sealed) → Some a ≡ Some b → a ≡ b
some_is a b e = cc e

none_some : (a : Sealed) → None ≡ Some a → ⊥
none_some a e = cc e

got_within : (xs : List Sealed) (i : ℕ) (a : Sealed) → slice_get xs i ≡ Some a → i < length xs
got_within [] i a is = absurd (none_some a is)
got_within (x ∷ xs) zero a is = omega arith
got_within (x ∷ xs) (suc i) a is = omega (arith, got_within xs i a is)

pub all_apart : (to size : ℕ) (xs : List Sealed) → length xs ≤ to → AreApartTo to size xs → AreApart size xs
all_apart to size xs le apart i a b here next = apart i a b (omega (arith, le, got_within xs i a here)) here next

-- the thing at a place, and the first after it
got_at : {X : Type 0} (g : X → Sealed) (xs : List X) (i : ℕ) (x : X) (a : Sealed) → i < length xs → x ≡ get_or xs i x → slice_get (map g xs) i ≡ Some a → a ≡ g x
got_at g [] i x a within is got = absurd (omega (arith, within))
got_at g (y ∷ ys) zero x a within is got = sym (some_is (g y) a got) ∙ ap g (sym is)
got_at g (y ∷ ys) (suc i) x a within is got = got_at g ys i x a (omega (arith, within)) is got

first_after : {X : Type 0} (g : X → Sealed) (xs : List X) (i : ℕ) (b : Sealed) → slice_get (map g xs) (suc i) ≡ Some b → (y : X) × (ys : List X) × (drop (suc i) xs ≡ y ∷ ys) × (b ≡ g y)
first_after g [] zero b got = absurd (none_some b got)
first_after g [] (suc i) b got = absurd (none_some b got)
first_after g (x ∷ []) zero b got = absurd (none_some b got)
first_after g (x ∷ y ∷ ys) zero b got = (y, ys, refl, sym (some_is (g y) b got))
first_after g (x ∷ xs) (suc i) b got = first_after g xs i b got

pub apart_more : {X : Type 0} (f : X → Part) (g : X → Sealed) → ((y : X) → (g y).part ≡ f y) → (size : ℕ) (xs others : List X) (i : ℕ) (x : X) → i < length xs → x ≡ get_or xs i x
    → others ≡ drop (suc i) xs
    → IsPassedByFirst (f x) (map f others) → (CanJoinFirst size (g x) (map g others) → ⊥) → AreApartTo i size (map g xs) → AreApartTo (i + 1) size (map g xs)
apart_more {X} f g part_is size xs others i x within is rest passed not so_far j a b below here next = by j (i - j) (omega (arith, below)) here next
  where
    at_place : slice_get (map g xs) i ≡ Some a → slice_get (map g xs) (i + 1) ≡ Some b → (end_of a.part < end_of b.part) × (CanJoin size a b → ⊥)
    at_place got more =
        let next : i + 1 ≡ suc i = omega arith in
        let found = first_after g xs i b (subst (λ (n : ℕ). slice_get (map g xs) n ≡ Some b) next more) in
        let y = found.0 in
        let head : others ≡ y ∷ found.1 = rest ∙ found.2 in
        let a_is = got_at g xs i x a within is got in
        let b_is = found.3 in
        let ends : end_of (f x) < end_of (f y) = subst (λ (l : List X). IsPassedByFirst (f x) (map f l)) head passed in
        let never : CanJoin size (g x) (g y) → ⊥ = subst (λ (l : List X). CanJoinFirst size (g x) (map g l) → ⊥) head not in (
          omega (arith, ends, ap (λ (s : Sealed). end_of s.part) a_is, ap (λ (s : Sealed). end_of s.part) b_is, ap end_of (part_is x), ap end_of (part_is y)),
          subst (λ (s : Sealed). CanJoin size s b → ⊥) (sym a_is) (subst (λ (s : Sealed). CanJoin size (g x) s → ⊥) (sym b_is) never),
        )

    by : (k left : ℕ) → k + left ≡ i → slice_get (map g xs) k ≡ Some a → slice_get (map g xs) (k + 1) ≡ Some b → (end_of a.part < end_of b.part) × (CanJoin size a b → ⊥)
    by k zero sum got more =
        let same : k ≡ i = omega (arith, sum) in
        at_place (subst (λ (n : ℕ). slice_get (map g xs) n ≡ Some a) same got) (subst (λ (n : ℕ). slice_get (map g xs) (n + 1) ≡ Some b) same more)
    by k (suc left) sum got more = so_far k a b (omega (arith, sum)) got more

-- ---- what is removed

end_at_last : (n : ℕ) (before : List Part) (p : Part) → end_of p ≤ end_from n (before ++ p ∷ [])
end_at_last n before p = omega (arith, end_from-push n before p)

-- the part after one that covers it
pub next_covered : (first : ℕ) (parts : List Part) (place : ℕ) → CoversNext parts place → IsCovered first parts (place + 1)
next_covered first parts place c = record {
  before = c.before ++ c.head ∷ [];
  covered = c.covered;
  after = c.after;
  split = c.split ∙ sym (append_push c.before c.head (c.covered ∷ c.after));
  place_is = omega (arith, c.place_is, length-append c.before (c.head ∷ []));
  some = omega arith;
  ends = omega (arith, c.ends, end_at_last first c.before c.head);
}
  where
    append_push : (xs : List Part) (x : Part) (ys : List Part) → (xs ++ x ∷ []) ++ ys ≡ xs ++ x ∷ ys
    append_push [] x ys = refl
    append_push (z ∷ xs) x ys = ap (λ (l : List Part). z ∷ l) (append_push xs x ys)

-- the first part of a run that was joined
joined_covers : (parts : List Part) (place count : ℕ) (r : IsRun parts place count) → 0 < count → CoversNext (with_joined r) place
joined_covers parts place count r some = by r.run (omega (arith, r.count_is, some)) r.next refl
  where
    by : (run : List Part) → 0 < length run → AreNext (end_of r.head) run → run ≡ r.run → CoversNext (with_joined r) place
    by [] none next same = absurd (omega (arith, none))
    by (q ∷ run) many next same = record {
      before = r.before;
      head = one_of r;
      covered = q;
      after = run ++ r.after;
      split = ap (λ (l : List Part). r.before ++ one_of r ∷ (l ++ r.after)) (sym same);
      place_is = r.place_is;
      ends = omega (
        arith,
        next.0,
        length-append r.head.slots (slots_in r.run),
        ap (λ (l : List Part). length (slots_in l)) same,
        length-append q.slots (slots_in run),
      );
    }

-- the place after a step is one of the segments
pub step_within : (size : ℕ) (segments : List Sealed) (place count : ℕ) → IsStep size segments place count → place + 1 < length segments
step_within size segments place zero step =
    let c = step.covers refl in
    omega (arith, length-map segments (λ (s : Sealed). s.part), ap length c.split, length-append c.before (c.head ∷ c.covered ∷ c.after), c.place_is)
step_within size segments place (suc count) step =
    let r = (step.joins (omega arith)).run in
    omega (
      arith,
      length-map segments (λ (s : Sealed). s.part),
      ap length r.split,
      length-append r.before (r.head ∷ (r.run ++ r.after)),
      length-append r.run r.after,
      r.place_is,
      r.count_is,
    )

-- ---- steps

pub of_store : (first : ℕ) (reader : Reading) → IsSeen reader → IsOfStore (sealed_of first reader)
of_store first reader seen = record {
  blocks = store_of reader;
  are = seen.blocks;
  slots_are = refl;
  bytes_are = ap length seen.data_is;
}

-- the parts where a run has become one
become_parts : (old new : List Sealed) (place count : ℕ) (r : IsRun (parts_of old) place count) → BecomesOne old r new → parts_of new ≡ with_joined r
become_parts old new place count r b = ap parts_of b.new_is ∙ run_set (λ (s : Sealed). s.part) old place count r b.one b.part_is

-- the first of a run has covered the next one since
pub first_covers : {size : ℕ} {old new : List Sealed} {place count : ℕ} (can : CanBecomeOne size old place count) → BecomesOne old can.run new → CoversNext (parts_of new) place
first_covers {size} {old} {new} {place} {count} can becomes =
    subst (λ (l : List Part). CoversNext l place) (sym (become_parts old new place count can.run becomes)) (joined_covers (parts_of old) place count can.run can.some)

-- steps after others
pub compact_more : {size : ℕ} {old mid new : List Sealed} → Compacts size old mid → Compacts size mid new → Compacts size old new
compact_more one stay = one
compact_more one (join two can becomes) = join (compact_more one two) can becomes
compact_more one (remove_next two covers) = remove_next (compact_more one two) covers

-- they bring no slots
pub compact_slots : {size : ℕ} {old new : List Sealed} (slot : Slot) → Compacts size old new → Contains (slots_in (parts_of new)) slot → Contains (slots_in (parts_of old)) slot
compact_slots slot stay has = has
compact_slots slot (join {mid} {new} {place} {count} some can becomes) has =
    compact_slots slot some
    (in_joined (parts_of mid) place count can.run slot (subst (λ (l : List Part). Contains (slots_in l) slot) (become_parts mid new place count can.run becomes) has))
compact_slots slot (remove_next {mid} {place} some covers) has = compact_slots slot some (in_left (λ (s : Sealed). s.part) slot (place + 1) mid has)
