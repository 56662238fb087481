-- Which part of a log has a slot.
use Rattle.std.proofs.Common.{◌≡◌, ℕ, zero, suc, ◌+◌, ◌-◌, ◌<◌, ◌≤◌, max, List, [], ◌∷◌, ◌++◌, length, drop, take, map, get_or, Option, Some, None, refl, sym}
use Rattle.std.proofs.Common.{◌∙◌, ap, subst, arith, length-append, length-drop}
use Rattle.std.specs.Prelude.{slice_get, nat_le, All, option_map}
use Rattle.std.proofs.Common.{set}
use Rattle.std.proofs.lemmas.List.{length-map, get_or-map, take-map, map-set, set-get_or}
use Rattle.std.proofs.lemmas.List.Elements.{All-head, All-tail, All-same, All-map}
use Rattle.std.proofs.lemmas.List.Sums.{sum_by-set, get_or-le-sum_by}
use Rattle.std.specs.List.{sum_by}
use Rattle.std.proofs.lemmas.Option.{slice_get-map, slice_get_past, slice_get-get_or}
use Rattle.std.proofs.lemmas.Bool.{cond-true}
use Rattle.store_base.specs.Counts.{HasRisen}
use Rattle.log_tail.proofs.Frames.{fits_le}
use Rattle.log_tail.specs.declared.batches.Place.{Place}
use Rattle.log_tail.specs.Place.{content, contents}
use Rattle.log_tail.specs.Tail.{records_of, first_of}
use Rattle.store_format.specs.Block.{Slot, doc}
use Rattle.segmented_log.specs.Parts.{Part, end_of, tail_slots, tail_end, end_from, joined, AreInLine, log_slots, AreParts}
use Rattle.segmented_log.specs.Log.{slot_at}

get_left : (xs ys : List Slot) (i : ℕ) → i < length xs → slice_get (xs ++ ys) i ≡ slice_get xs i
get_left [] ys i within = absurd (omega arith)
get_left (x ∷ xs) ys zero within = refl
get_left (x ∷ xs) ys (suc i) within = get_left xs ys i (omega arith)

get_right : (xs ys : List Slot) (i j : ℕ) → i ≡ length xs + j → slice_get (xs ++ ys) i ≡ slice_get ys j
get_right [] ys i j is = ap (λ (n : ℕ). slice_get ys n) (omega (arith, is))
get_right (x ∷ xs) ys zero j is = absurd (omega (arith, is))
get_right (x ∷ xs) ys (suc i) j is = get_right xs ys i j (omega (arith, is))

get_dropped : (k : ℕ) (xs : List Slot) (i j : ℕ) → j ≡ k + i → slice_get (drop k xs) i ≡ slice_get xs j
get_dropped zero xs i j is = ap (λ (n : ℕ). slice_get xs n) (omega (arith, is))
get_dropped (suc k) [] i j is = refl
get_dropped (suc k) (x ∷ xs) i zero is = absurd (omega (arith, is))
get_dropped (suc k) (x ∷ xs) i (suc j) is = get_dropped k xs i j (omega (arith, is))

pub joined_size : (n : ℕ) (parts : List Part) → AreInLine n parts → n + length (joined n parts) ≡ end_from n parts
joined_size n [] line = omega arith
joined_size n (p ∷ parts) line =
    let m = max n (end_of p) in
    omega (
      arith,
      line.0,
      joined_size m parts line.2,
      length-append (drop (n - p.first) p.slots) (joined m parts),
      length-drop (n - p.first) p.slots,
    )

-- the first part that ends after a number has its slot
pub slot_found : (n : ℕ) (parts : List Part) (i number : ℕ) (d : Part) → AreInLine n parts → n ≤ number → i < length parts → All (λ p. end_of p ≤ number) (take i parts)
    → number < end_of (get_or parts i d)
    → ((get_or parts i d).first ≤ number) × (slice_get (joined n parts) (number - n) ≡ slice_get (get_or parts i d).slots (number - (get_or parts i d).first))
slot_found n [] i number d line le within before now = absurd (omega arith)
slot_found n (p ∷ parts) zero number d line le within before now =
    let k = n - p.first in
    let size = length-drop k p.slots in (
      omega (arith, line.0, le),
      get_left (drop k p.slots) (joined (max n (end_of p)) parts) (number - n) (omega (arith, size, line.0, le, now))
          ∙ get_dropped k p.slots (number - n) (number - p.first) (omega (arith, line.0, le)),
    )
slot_found n (p ∷ parts) (suc i) number d line le within before now =
    let m = max n (end_of p) in
    let k = n - p.first in
    let passed : end_of p ≤ number = All-head (λ (q : Part). end_of q ≤ number) p (take i parts) before in
    let rest = slot_found m parts i number d line.2 (omega (arith, le, passed)) (omega arith) (All-tail (λ (q : Part). end_of q ≤ number) p (take i parts) before) now in (
      rest.0,
      get_right (drop k p.slots) (joined m parts) (number - n) (number - m) (omega (arith, length-drop k p.slots, line.0, le, passed)) ∙ rest.1,
    )

-- the same for things that stand for parts
pub found_at : {X : Type 0} (f : X → Part) (xs : List X) (i number n : ℕ) (x : X) → i < length xs → x ≡ get_or xs i x → All (λ y. end_of (f y) ≤ number) (take i xs) → number < end_of (f x)
    → AreInLine n (map f xs) → n ≤ number → ((f x).first ≤ number) × (slice_get (joined n (map f xs)) (number - n) ≡ slice_get (f x).slots (number - (f x).first))
found_at f xs i number n x within is before now line le =
    let here : get_or (map f xs) i (f x) ≡ f x = get_or-map f xs i x (f x) within ∙ ap f (sym is) in
    let passed : All (λ p. end_of p ≤ number) (take i (map f xs)) =
    All-same (λ (p : Part). end_of p ≤ number) (take i (map f xs)) (map f (take i xs)) (take-map f i xs) (All-map (λ (p : Part). end_of p ≤ number) f (take i xs) before) in
    let found = slot_found n (map f xs) i number (f x) line le (omega (arith, within, length-map xs f)) passed (subst (λ (p : Part). number < end_of p) (sym here) now) in
    subst (λ (p : Part). (p.first ≤ number) × (slice_get (joined n (map f xs)) (number - n) ≡ slice_get p.slots (number - p.first))) here found

-- the same for one that a search found in a list that is the same
pub held_at : {X : Type 0} (f : X → Part) (xs seen : List X) (i number n : ℕ) (x : X) → seen ≡ xs → i < length xs → x ≡ get_or xs i x → All (λ y. end_of (f y) ≤ number) (take i seen)
    → number < end_of (f (get_or seen i x)) → AreInLine n (map f xs) → n ≤ number
    → (number < end_of (f x)) × ((f x).first ≤ number) × (slice_get (joined n (map f xs)) (number - n) ≡ slice_get (f x).slots (number - (f x).first))
held_at {X} f xs seen i number n x same within is before found line le =
    let passed = subst (λ (ys : List X). All (λ y. end_of (f y) ≤ number) (take i ys)) same before in
    let ends : number < end_of (f x) = subst (λ (y : X). number < end_of (f y)) (sym is) (subst (λ (ys : List X). number < end_of (f (get_or ys i x))) same found) in
    let at = found_at f xs i number n x within is passed ends line le in
    (ends, at.0, at.1)

-- a thing is replaced that stands for the same
pub same_map : {X Y : Type 0} (f : X → Y) (xs : List X) (i : ℕ) (new old : X) → i < length xs → old ≡ get_or xs i old → f new ≡ f old → map f (set xs i new) ≡ map f xs
same_map {X} {Y} f xs i new old within is same =
    map-set f xs i new
    ∙ ap (λ (p : Y). set (map f xs) i p) (same ∙ ap f is ∙ sym (get_or-map f xs i old (f old) within))
    ∙ set-get_or (map f xs) i (f old)

-- the count of all, where one of them is replaced whose count is no lower
module _ {X : Type 0} (f : X → ℕ) (xs : List X) (i : ℕ) (new old : X) (within : i < length xs) (is : old ≡ get_or xs i old) where
  pub count_of_all : f old ≤ f new → sum_by f xs ≤ sum_by f (set xs i new)
  count_of_all le = omega (arith, le, sum_by-set f xs i new old within, ap f is)

  pub risen_of_all : HasRisen (f old) (f new) → HasRisen (sum_by f xs) (sum_by f (set xs i new))
  risen_of_all risen =
      let change = sum_by-set f xs i new old within in
      let least = get_or-le-sum_by f xs i old within in
      let same = ap f is in
      record {
        no_lower = count_of_all risen.no_lower;
        risen = λ low. omega (arith, change, same, risen.risen (omega (arith, low, change, least, same)));
      }

-- some part ends after a number before the end of them all
pub slot_somewhere : (n : ℕ) (parts : List Part) (number : ℕ) → n ≤ number → All (λ p. end_of p ≤ number) parts → end_from n parts ≤ number
slot_somewhere n [] number le all = le
slot_somewhere n (p ∷ parts) number le all =
    let passed : end_of p ≤ number = All-head (λ (q : Part). end_of q ≤ number) p parts all in
    slot_somewhere (max n (end_of p)) parts number (omega (arith, le, passed)) (All-tail (λ (q : Part). end_of q ≤ number) p parts all)

module _ (first : ℕ) (segments : List Part) (tail : List ℕ) (parts : AreParts first segments tail) where
  sizes : first + length (joined first segments) ≡ end_from first segments
  sizes = joined_size first segments parts.in_line

  tail_size : length (tail_slots tail) ≡ length (records_of tail)
  tail_size = length-map (records_of tail) doc

  pub slots_end : first + length (log_slots first segments tail) ≡ tail_end tail
  slots_end =
      omega (
        arith,
        sizes,
        tail_size,
        parts.meets,
        parts.reaches,
        length-append (joined first segments) (drop (end_from first segments - first_of tail) (tail_slots tail)),
        length-drop (end_from first segments - first_of tail) (tail_slots tail),
      )

  slot_from : (number : ℕ) → first ≤ number → slot_at first (log_slots first segments tail) number ≡ slice_get (log_slots first segments tail) (number - first)
  slot_from number le = cond-true (nat_le first number) (slice_get (log_slots first segments tail) (number - first)) None (fits_le first number le)

  pub slot_after : (number : ℕ) → tail_end tail ≤ number → slot_at first (log_slots first segments tail) number ≡ None
  slot_after number high =
      slot_from number (omega (arith, slots_end, high))
      ∙ slice_get_past (log_slots first segments tail) (number - first) (omega (arith, slots_end, high))

  pub slot_sealed : (number : ℕ) → first ≤ number → number < end_from first segments → slot_at first (log_slots first segments tail) number ≡ slice_get (joined first segments) (number - first)
  slot_sealed number le below =
      slot_from number le
      ∙ get_left (joined first segments) (drop (end_from first segments - first_of tail) (tail_slots tail)) (number - first) (omega (arith, sizes, le, below))

  pub slot_in_tail : (number : ℕ) → end_from first segments ≤ number → slot_at first (log_slots first segments tail) number ≡ option_map doc (slice_get (records_of tail) (number - first_of tail))
  slot_in_tail number high =
      let k = end_from first segments - first_of tail in
      let j = number - end_from first segments in
      slot_from number (omega (arith, sizes, high))
      ∙ get_right (joined first segments) (drop k (tail_slots tail)) (number - first) j (omega (arith, sizes, high))
      ∙ get_dropped k (tail_slots tail) j (number - first_of tail) (omega (arith, parts.meets, high))
      ∙ slice_get-map doc (records_of tail) (number - first_of tail)

  -- what is read of the tail at a place
  pub slot_read : (places : List Place) (place : Place) (bytes : List ℕ) (number : ℕ) → contents tail places ≡ records_of tail → end_from first segments ≤ number
      → number - first_of tail < length places
      → place ≡ get_or places (number - first_of tail) place → bytes ≡ content tail place → slot_at first (log_slots first segments tail) number ≡ Some (doc bytes)
  slot_read places place bytes number known high within is read =
      let i = number - first_of tail in
      let there : slice_get places i ≡ Some place = slice_get-get_or places i place within ∙ ap (λ (p : Place). Some p) (sym is) in
      slot_in_tail number high
      ∙ ap (λ (l : List (List ℕ)). option_map doc (slice_get l i)) (sym known)
      ∙ ap (λ (o : Option (List ℕ)). option_map doc o) (slice_get-map (content tail) places i ∙ ap (λ (o : Option Place). option_map (content tail) o) there)
      ∙ ap (λ (b : List ℕ). Some (doc b)) (sym read)
