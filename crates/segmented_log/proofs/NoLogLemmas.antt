-- Why a folder is refused.
use Rattle.std.proofs.Common.{◌≡◌, ⊎_elim, ℕ, suc, ◌+◌, ◌<◌, ◌≤◌, ◌^◌, List, [], ◌∷◌, length, Option, Some, None, refl, sym, ◌∙◌, ap, subst, arith}
use Rattle.std.specs.Prelude.{Bool, true, false, IsSome}
use Rattle.std.specs.List.{AllByRecursion, Contains}
use Rattle.std.specs.List.Sorted.{IsStrictlyIncreasing, IsStrictlySortedBy}
use Rattle.std.specs.Ordering.{nat_cmp}
use Rattle.std.proofs.lemmas.List.{append-nil}
use Rattle.std.proofs.lemmas.Map.Keys.{sorted_tail, below_from_sorted, sorted_from_strictly_increasing}
use Rattle.store_folder.specs.Folder.{Look, AreNames}
use Rattle.store_format.specs.Block.{Slot}
use Rattle.store_format.specs.Laws.{StoresAreApart}
use Rattle.log_tail.specs.Tail.{records_of, IsTail}
use Rattle.segmented_log.specs.Names.{segment_name, tail_name}
use Rattle.segmented_log.specs.Parts.{Part, tail_end, first_in, end_from, Ascend, AreParts}
use Rattle.segmented_log.specs.Log.{HasSegment, IsLog, IsBlank}
use Rattle.segmented_log.specs.Opening.{AreNumbersIn, IsNoLog, HasFullTail, HasSegments, IsNoSegment, IsNoTail, IsTailOf}
use Rattle.segmented_log.specs.Dropping.{AreOfOneLog, HasOnly}
use Rattle.segmented_log.proofs.HoldLemmas.{firsts}
use Rattle.segmented_log.proofs.PartLemmas.{begin_before, more_parts, one_log}
use Rattle.segmented_log.proofs.UniqueLemmas.{AreAmong, among_cons, same_parts, from_zero, log_parts}

some_none : (o : Option (List ℕ)) → IsSome o → o ≡ None → ⊥
some_none None some is = cc some
some_none (Some bytes) some is = cc is

is_some : (o : Option (List ℕ)) (bytes : List ℕ) → o ≡ Some bytes → IsSome o
is_some o bytes is = subst IsSome (sym is) refl

-- parts whose first numbers rise
ascends : (n : ℕ) (p : Part) (parts : List Part) → n ≤ p.first → IsStrictlySortedBy nat_cmp (firsts (p ∷ parts)) → Ascend n (p ∷ parts)
ascends n p [] le sorted = (le, tt)
ascends n p (q ∷ parts) le sorted =
    let above : p.first < q.first = below_from_sorted (firsts (p ∷ q ∷ parts)) 0 1 0 sorted (omega arith) (omega arith) in
    (le, ascends (p.first + 1) q parts (omega (arith, above)) (sorted_tail nat_cmp p.first (firsts (q ∷ parts)) sorted))

ascend_all : (parts : List Part) → IsStrictlySortedBy nat_cmp (firsts parts) → Ascend 0 parts
ascend_all [] sorted = tt
ascend_all (p ∷ parts) sorted = ascends 0 p parts (omega arith) sorted

-- the segment of a number that some part has
segment_at : (c : Look) (parts : List Part) (k : ℕ) → AllByRecursion (HasSegment c) parts → Contains (firsts parts) k → (all : List Slot) × HasSegment c (record { first = k; slots = all })
segment_at c [] k has among = absurd (omega (arith, among.1))
segment_at c (p ∷ parts) k has among =
    ⊎_elim (λ same. (p.slots, subst (λ (n : ℕ). HasSegment c (record { first = n; slots = p.slots })) same has.0)) (λ later. segment_at c parts k has.1 later) (among_cons p parts k among)

-- a folder that has no file of a log has no segments
no_parts : (seen : Look) (parts : List Part) → AllByRecursion (HasSegment seen) parts → ((p : Part) (ps : List Part) → parts ≡ p ∷ ps → p.first < 2 ^ 64) → IsBlank seen → parts ≡ []
no_parts seen [] has low blank = refl
no_parts seen (p ∷ ps) has low blank =
    let name = segment_name p.first in
    absurd (some_none (seen name) (is_some (seen name) has.0.0 has.0.2) (blank.no_segments p.first (low p ps refl)))

module _ (seen : Look) (names : List (List ℕ)) (numbers : List ℕ) (all : AreNames seen names) (of : AreNumbersIn names numbers) where
  there : (k : ℕ) → Contains numbers k → IsSome (seen (segment_name k))
  there k among = all.only (segment_name k) (of.only k among)

  -- a number of which there is no store
  pub no_store : (k : ℕ) → Contains numbers k → IsNoSegment seen k → IsNoLog seen
  no_store k among bad = record {
    not_log = λ first slots log. ⊎_elim (λ none. some_none (seen (segment_name k)) (there k among) none)
        (λ known. let at = segment_at seen log.segments k log.holds.each known in bad.no_store at.0 at.1) (log.holds.no_others k bad.fits);
    not_blank = λ blank. some_none (seen (segment_name k)) (there k among) (blank.no_segments k bad.fits);
  }

  pub some_segment : 0 < length numbers → HasSegments seen
  some_segment some = by numbers some (λ k among. there k among)
    where
      by : (ks : List ℕ) → 0 < length ks → ((k : ℕ) → Contains ks k → IsSome (seen (segment_name k))) → HasSegments seen
      by [] none known = absurd (omega (arith, none))
      by (k ∷ ks) one known = (k, known k (0, omega arith, refl))

  module _ (parts : List Part) (firsts_are : firsts parts ≡ numbers) (has : AllByRecursion (HasSegment seen) parts) where
    among_numbers : (k : ℕ) → Contains (firsts parts) k → Contains numbers k
    among_numbers k among = subst (λ (l : List ℕ). Contains l k) firsts_are among

    -- they are the segments of the log that the folder is
    parts_same : StoresAreApart → IsStrictlyIncreasing numbers → (first : ℕ) (slots : List Slot) (log : IsLog first slots seen) → parts ≡ log.segments
    parts_same apart up first slots log =
        same_parts apart seen 0 parts log.segments (ascend_all parts (subst (λ (l : List ℕ). IsStrictlySortedBy nat_cmp l) (sym firsts_are) (sorted_from_strictly_increasing numbers up)))
        (from_zero first log.segments log.parts.ascend) (of_log parts (λ k among. among_numbers k among))
        (of_folder log.segments log.holds.each (begin_before first log.segments log.parts.in_line)) has log.holds.each
      where
        of_log : (ps : List Part) → ((k : ℕ) → Contains (firsts ps) k → Contains numbers k) → AreAmong ps log.segments
        of_log [] known = tt
        of_log (p ∷ ps) known =
            let among = known p.first (0, omega arith, refl) in (
              ⊎_elim (λ none. absurd (some_none (seen (segment_name p.first)) (there p.first among) none)) (λ is. is) (log.holds.no_others p.first (of.fits p.first among)),
              of_log ps (λ k later. known k (later_too p ps k later)),
            )
          where
            later_too : (p : Part) (ps : List Part) (k : ℕ) → Contains (firsts ps) k → Contains (firsts (p ∷ ps)) k
            later_too p ps k later = (suc later.0, omega (arith, later.1), later.2)

        of_folder : (ps : List Part) → AllByRecursion (HasSegment seen) ps → AllByRecursion (λ part. part.first < end_from first log.segments) ps → AreAmong ps parts
        of_folder [] each below = tt
        of_folder (p ∷ ps) each below = (
          subst (λ (l : List ℕ). Contains l p.first) (sym firsts_are)
              (of.each p.first (omega (arith, below.0, log.parts.fits)) (all.each (segment_name p.first) (is_some (seen (segment_name p.first)) each.0.0 each.0.2))),
          of_folder ps each.1 below.1,
        )

    -- they are not those of one log
    pub not_one_log : StoresAreApart → IsStrictlyIncreasing numbers → (AreOfOneLog parts → ⊥) → IsNoLog seen
    not_one_log apart up bad = record {
      not_log = λ first slots log. bad (subst AreOfOneLog (sym (parts_same apart up first slots log)) (one_log first log.segments log.tail log.parts));
      not_blank = λ blank.
          let low : (p : Part) (ps : List Part) → parts ≡ p ∷ ps → p.first < 2 ^ 64 =
          λ p ps is. of.fits p.first (among_numbers p.first (subst (λ (l : List Part). Contains (firsts l) p.first) (sym is) (0, omega arith, refl))) in
          bad (subst AreOfOneLog (sym (no_parts seen parts has low blank)) (record { in_line = tt; ascend = tt; fits = omega arith }));
    }

-- segments that are those of one log
module _ (seen : Look) (parts : List Part) (are : AreOfOneLog parts) (only : HasOnly parts seen) where
  blank_parts : IsBlank seen → parts ≡ []
  blank_parts =
      let end = end_from (first_in parts 0) parts in
      no_parts seen parts only.each
      (λ p ps is.
      let below : AllByRecursion (λ q. q.first < end) (p ∷ ps) = subst (λ (l : List Part). AllByRecursion (λ q. q.first < end) l) is (begin_before (first_in parts 0) parts are.in_line) in
      omega (arith, below.0, are.fits))

  -- there is no tail, or it is none
  pub no_tail : (is_blank : Bool) → (parts ≡ [] → is_blank ≡ true) → IsNoTail is_blank (seen tail_name) → IsNoLog seen
  no_tail is_blank empty bad = record {
    not_log = λ first slots log. subst (λ (o : Option (List ℕ)). IsNoTail is_blank o) log.holds.tail_is bad log.parts.is_tail;
    not_blank = λ blank.
        let not : is_blank ≡ false = subst (λ (o : Option (List ℕ)). IsNoTail is_blank o) blank.no_tail bad in
        true_false (sym (empty (blank_parts blank)) ∙ not);
  }
    where
      true_false : true ≡ false → ⊥
      true_false e = cc e

  -- the segments and the tail are not in line
  pub not_in_line : StoresAreApart → (tail : List ℕ) → IsTail tail → IsTailOf (seen tail_name) tail → ((first : ℕ) → AreParts first parts tail → ⊥) → IsNoLog seen
  not_in_line apart tail is_tail same bad = record {
    not_log = λ first slots log.
        let t : IsTailOf (Some log.tail) tail = subst (λ (o : Option (List ℕ)). IsTailOf o tail) log.holds.tail_is same in
        bad first (subst (λ (ps : List Part). AreParts first ps tail) (log_parts apart seen parts are only first slots log)
        (more_parts first log.segments log.tail log.parts tail [] is_tail t.1 (t.2 ∙ sym (append-nil (records_of log.tail)))));
    not_blank = λ blank.
        let t : IsTailOf None tail = subst (λ (o : Option (List ℕ)). IsTailOf o tail) blank.no_tail same in
        bad 0 (subst (λ (ps : List Part). AreParts 0 ps tail) (sym (blank_parts blank)) (record {
          first_is = sym t.0;
          in_line = tt;
          ascend = tt;
          fits = omega arith;
          is_tail = is_tail;
          meets = omega (arith, t.0);
          reaches = omega arith;
        }));
  }

-- the tail's numbers pass the greatest u64
pub full_tail : (seen : Look) (tail : List ℕ) → IsTailOf (seen tail_name) tail → 2 ^ 64 ≤ tail_end tail → HasFullTail seen
full_tail seen tail same full = by (seen tail_name) refl same
  where
    by : (o : Option (List ℕ)) → seen tail_name ≡ o → IsTailOf o tail → HasFullTail seen
    by None is t = absurd (omega (arith, full, t.0, ap (λ (l : List (List ℕ)). length l) t.1))
    by (Some bytes) is t = (bytes, is, omega (arith, full, t.1, ap (λ (l : List (List ℕ)). length l) t.2))
