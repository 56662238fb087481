-- How the slots of a log change with its parts.
use Rattle.std.proofs.Common.{◌≡◌, ℕ, ◌+◌, ◌-◌, ◌^◌, ◌<◌, ◌≤◌, max, List, [], ◌∷◌, ◌++◌, length, drop, map, refl, sym, ◌∙◌, ap, subst, arith, length-append, length-drop, append_assoc}
use Rattle.std.proofs.lemmas.List.{append-nil, drop-append-le, drop_all, length-map, map-append}
use Rattle.std.specs.List.{AllByRecursion}
use Rattle.store_format.specs.Block.{Slot, doc}
use Rattle.log_tail.specs.Tail.{records_of, first_of, IsTail}
use Rattle.segmented_log.specs.Parts.{Part, end_of, tail_slots, tail_end, first_in, end_from, joined, AreInLine, Ascend, log_slots, AreParts}
use Rattle.segmented_log.specs.Dropping.{AreOfOneLog}

pub joined-push : (n : ℕ) (parts : List Part) (part : Part) → joined n (parts ++ part ∷ []) ≡ joined n parts ++ drop (end_from n parts - part.first) part.slots
joined-push n [] part = append-nil (drop (n - part.first) part.slots)
joined-push n (p ∷ parts) part =
    ap (λ (l : List Slot). drop (n - p.first) p.slots ++ l) (joined-push (max n (end_of p)) parts part)
    ∙ sym (append_assoc (drop (n - p.first) p.slots) (joined (max n (end_of p)) parts) (drop (end_from (max n (end_of p)) parts - part.first) part.slots))

pub end_from-push : (n : ℕ) (parts : List Part) (part : Part) → end_from n (parts ++ part ∷ []) ≡ max (end_from n parts) (end_of part)
end_from-push n [] part = refl
end_from-push n (p ∷ parts) part = end_from-push (max n (end_of p)) parts part

pub from_le_end : (n : ℕ) (parts : List Part) → n ≤ end_from n parts
from_le_end n [] = omega arith
from_le_end n (p ∷ parts) = omega (arith, from_le_end (max n (end_of p)) parts)

pub in_line-push : (n : ℕ) (parts : List Part) (part : Part) → AreInLine n parts → part.first ≤ end_from n parts → 0 < length part.slots → AreInLine n (parts ++ part ∷ [])
in_line-push n [] part line at some = (at, some, tt)
in_line-push n (p ∷ parts) part line at some = (line.0, line.1, in_line-push (max n (end_of p)) parts part line.2 at some)

-- each part begins before the end of them all
pub begin_before : (n : ℕ) (parts : List Part) → AreInLine n parts → AllByRecursion (λ part. part.first < end_from n parts) parts
begin_before n [] line = tt
begin_before n (p ∷ parts) line =
    let end = end_from (max n (end_of p)) parts in
    let le : max n (end_of p) ≤ end = from_le_end (max n (end_of p)) parts in
    (omega (arith, le, line.1), begin_before (max n (end_of p)) parts line.2)

-- the segments of a log
pub one_log : (first : ℕ) (segments : List Part) (tail : List ℕ) → AreParts first segments tail → AreOfOneLog segments
one_log first [] tail parts = record { in_line = tt; ascend = tt; fits = omega arith }
one_log first (p ∷ segments) tail parts = record {
  in_line = subst (λ (n : ℕ). AreInLine n (p ∷ segments)) parts.first_is parts.in_line;
  ascend = (omega arith, parts.ascend.1);
  fits = subst (λ (n : ℕ). end_from n (p ∷ segments) < 2 ^ 64) parts.first_is parts.fits;
}

pub ascend_first : (segments : List Part) → Ascend 0 segments → Ascend (first_in segments 0) segments
ascend_first [] up = tt
ascend_first (p ∷ segments) up = (omega arith, up.1)

ascend-push : (n : ℕ) (parts : List Part) (part : Part) → n ≤ part.first → AllByRecursion (λ other. other.first < part.first) parts → Ascend n parts → Ascend n (parts ++ part ∷ [])
ascend-push n [] part le below up = (le, tt)
ascend-push n (p ∷ parts) part le below up = (up.0, ascend-push (p.first + 1) parts part (omega (arith, below.0)) below.1 up.1)

first_in-push : (parts : List Part) (part : Part) (n m : ℕ) → (parts ≡ [] → part.first ≡ n) → first_in (parts ++ part ∷ []) m ≡ first_in parts n
first_in-push [] part n m same = same refl
first_in-push (p ∷ parts) part n m same = refl

-- the slots of a tail that the segments do not have
abbrev pub unsealed : ℕ → List Part → List ℕ → List Slot
unsealed first segments tail = drop (end_from first segments - first_of tail) (tail_slots tail)

-- the segment of them
abbrev pub next_segment : ℕ → List Part → List ℕ → Part
next_segment first segments tail = record { first = end_from first segments; slots = unsealed first segments tail }

module _ (first : ℕ) (segments : List Part) (tail : List ℕ) (parts : AreParts first segments tail) where
  size : length (tail_slots tail) ≡ length (records_of tail)
  size = length-map (records_of tail) doc

  pub unsealed_size : end_from first segments + length (unsealed first segments tail) ≡ tail_end tail
  unsealed_size = omega (arith, size, length-drop (end_from first segments - first_of tail) (tail_slots tail), parts.meets, parts.reaches)

  pub sealed_end : end_from first (segments ++ next_segment first segments tail ∷ []) ≡ tail_end tail
  sealed_end = omega (arith, end_from-push first segments (next_segment first segments tail), unsealed_size)

  -- records that are put after those of the tail
  pub more_parts : (file : List ℕ) (added : List (List ℕ)) → IsTail file → first_of file ≡ first_of tail → records_of file ≡ records_of tail ++ added → AreParts first segments file
  more_parts file added is_tail first_same more = record {
    first_is = parts.first_is ∙ ap (λ (n : ℕ). first_in segments n) (sym first_same);
    in_line = parts.in_line;
    ascend = parts.ascend;
    fits = parts.fits;
    is_tail = is_tail;
    meets = omega (arith, parts.meets, first_same);
    reaches = omega (arith, parts.reaches, first_same, ap length more, length-append (records_of tail) added);
  }

  pub more_slots : (file : List ℕ) (added : List (List ℕ)) → first_of file ≡ first_of tail → records_of file ≡ records_of tail ++ added
      → log_slots first segments file ≡ log_slots first segments tail ++ map doc added
  more_slots file added first_same more =
      let k = end_from first segments - first_of tail in
      let all : tail_slots file ≡ tail_slots tail ++ map doc added = ap (λ (l : List (List ℕ)). map doc l) more ∙ map-append doc (records_of tail) added in
      ap (λ (n : ℕ). joined first segments ++ drop (end_from first segments - n) (tail_slots file)) first_same
      ∙ ap (λ (l : List Slot). joined first segments ++ drop k l) all
      ∙ ap (λ (l : List Slot). joined first segments ++ l) (drop-append-le k (tail_slots tail) (map doc added) (omega (arith, size, parts.meets, parts.reaches)))
      ∙ sym (append_assoc (joined first segments) (drop k (tail_slots tail)) (map doc added))

  -- the tail's records in a segment, too
  module _ (some : 0 < length (unsealed first segments tail)) (low : tail_end tail < 2 ^ 64) where
    abbrev sealed : List Part
    sealed = segments ++ next_segment first segments tail ∷ []

    pub sealed_parts : AreParts first sealed tail
    sealed_parts = record {
      first_is = parts.first_is ∙ sym (first_in-push segments (next_segment first segments tail) (first_of tail) (first_of tail) (λ none. none_first segments parts.first_is none));
      in_line = in_line-push first segments (next_segment first segments tail) parts.in_line (omega arith) some;
      ascend = ascend-push first segments (next_segment first segments tail) (from_le_end first segments) (begin_before first segments parts.in_line) parts.ascend;
      fits = omega (arith, sealed_end, low);
      is_tail = parts.is_tail;
      meets = omega (arith, parts.meets, sealed_end, unsealed_size);
      reaches = omega (arith, sealed_end);
    }
      where
        none_first : (others : List Part) → first ≡ first_in others (first_of tail) → others ≡ [] → end_from first others ≡ first_of tail
        none_first [] is none = is
        none_first (p ∷ others) is none = absurd (cc none)

    pub sealed_slots : log_slots first sealed tail ≡ log_slots first segments tail
    sealed_slots =
        let nothing : end_from first segments - end_from first segments ≡ 0 = omega arith in
        let own : drop (end_from first segments - end_from first segments) (unsealed first segments tail) ≡ unsealed first segments tail =
        ap (λ (n : ℕ). drop n (unsealed first segments tail)) nothing in
        let rest : drop (end_from first sealed - first_of tail) (tail_slots tail) ≡ [] =
        drop_all (end_from first sealed - first_of tail) (tail_slots tail) (omega (arith, size, sealed_end)) in
        (λ i. joined-push first segments (next_segment first segments tail) i ++ rest i)
        ∙ append-nil (joined first segments ++ drop (end_from first segments - end_from first segments) (unsealed first segments tail))
        ∙ ap (λ (l : List Slot). joined first segments ++ l) own

  -- an empty tail after segments that have all
  pub emptied_parts : (file : List ℕ) → end_from first segments ≡ tail_end tail → IsTail file → first_of file ≡ tail_end tail → records_of file ≡ [] → AreParts first segments file
  emptied_parts file all is_tail begins none = record {
    first_is = parts.first_is ∙ same segments parts.first_is all;
    in_line = parts.in_line;
    ascend = parts.ascend;
    fits = parts.fits;
    is_tail = is_tail;
    meets = omega (arith, all, begins);
    reaches = omega (arith, all, begins);
  }
    where
      same : (others : List Part) → first ≡ first_in others (first_of tail) → end_from first others ≡ tail_end tail → first_in others (first_of tail) ≡ first_in others (first_of file)
      same [] is whole = sym is ∙ whole ∙ sym begins
      same (p ∷ others) is whole = refl

  pub emptied_slots : (file : List ℕ) → end_from first segments ≡ tail_end tail → records_of file ≡ [] → log_slots first segments file ≡ log_slots first segments tail
  emptied_slots file all none =
      let k = end_from first segments - first_of tail in
      let mine : drop k (tail_slots tail) ≡ [] = drop_all k (tail_slots tail) (omega (arith, size, all)) in
      let theirs : drop (end_from first segments - first_of file) (tail_slots file) ≡ [] =
      drop_all (end_from first segments - first_of file) (tail_slots file) (omega (arith, ap length none, length-map (records_of file) doc)) in
      ap (λ (l : List Slot). joined first segments ++ l) (theirs ∙ sym mine)
