-- What a crash leaves while segments are joined, and while one goes that others cover.
use Rattle.std.proofs.Common.{◌≡◌, ◌≢◌, ◌⊎◌, inl, inr, ⊎_elim, ℕ, zero, suc, ◌+◌, ◌<◌, ◌≤◌, ◌^◌, List, [], ◌∷◌, ◌++◌, Some, None, refl, sym, ◌∙◌, ap, subst, arith}
use Rattle.std.specs.Prelude.{IsSome}
use Rattle.std.proofs.lemmas.Bool.{cases_eq}
use Rattle.std.proofs.lemmas.List.{map-append}
use Rattle.std.proofs.lemmas.List.Elements.{Contains-append_left, Contains-append_right, Contains-append_cases}
use Rattle.std.specs.List.{AllByRecursion, Contains}
use Rattle.store_folder.specs.Moments.{ComesFrom}
use Rattle.store_folder.specs.Folder.{Look, Elsewhere, ElsewhereOfBoth, FilesElsewhere, FilesElsewhereOfBoth, LosesFile}
use Rattle.store_folder.specs.Publishing.{part, IsOldOrWhole}
use Rattle.store_folder.proofs.NamesLemmas.{decided}
use Rattle.store_format.specs.Block.{Slot}
use Rattle.segmented_log.specs.Names.{segment_name, tail_name}
use Rattle.segmented_log.specs.Parts.{Part, end_of, end_from, Ascend, log_slots, AreParts}
use Rattle.segmented_log.specs.Log.{IsStoreWith, HasSegment, Holds, IsLog}
use Rattle.segmented_log.specs.Opening.{HasSegments}
use Rattle.segmented_log.specs.Settled.{AddsSegment, IsSettledFolder}
use Rattle.segmented_log.specs.Dropping.{LosesSegment}
use Rattle.segmented_log.specs.Compacting.{AreNext, ChangesSegments}
use Rattle.segmented_log.proofs.NameLemmas.{segment_no_tail, segments_apart, beside_no_segment, beside_no_tail}
use Rattle.segmented_log.proofs.HoldLemmas.{firsts}
use Rattle.segmented_log.proofs.PartLemmas.{begin_before}
use Rattle.segmented_log.proofs.JoinedParts.{whole, whole_ends, whole_parts, whole_slots, left_ends, left_parts, left_slots}

-- ---- the first numbers of the parts beside one of them

later : (n : ℕ) (before : List Part) (x : Part) (after : List Part) → Ascend n (before ++ x ∷ after) → n ≤ x.first
later n [] x after up = up.0
later n (b ∷ before) x after up = omega (arith, up.0, later (b.first + 1) before x after up.1)

-- they have other numbers, which fit a name
abbrev pub AreOthers : Part → List Part → Type 0
AreOthers x parts = AllByRecursion (λ q. (q.first ≢ x.first) × (q.first < 2 ^ 64)) parts

low_parts : (n : ℕ) (parts : List Part) → n < 2 ^ 64 → AllByRecursion (λ q. q.first < n) parts → AllByRecursion (λ q. q.first < 2 ^ 64) parts
low_parts n [] low below = tt
low_parts n (q ∷ parts) low below = (omega (arith, low, below.0), low_parts n parts low below.1)

before_part : (P : Part → Type 0) (xs ys : List Part) → AllByRecursion P (xs ++ ys) → AllByRecursion P xs
before_part P [] ys all = tt
before_part P (x ∷ xs) ys all = (all.0, before_part P xs ys all.1)

after_part : (P : Part → Type 0) (xs ys : List Part) → AllByRecursion P (xs ++ ys) → AllByRecursion P ys
after_part P [] ys all = all
after_part P (x ∷ xs) ys all = after_part P xs ys all.1

both_parts : (P : Part → Type 0) (xs ys : List Part) → AllByRecursion P xs → AllByRecursion P ys → AllByRecursion P (xs ++ ys)
both_parts P [] ys one two = two
both_parts P (x ∷ xs) ys one two = (one.0, both_parts P xs ys one.1 two)

others_before : (n : ℕ) (before : List Part) (x : Part) (after : List Part) → Ascend n (before ++ x ∷ after) → AllByRecursion (λ q. q.first < 2 ^ 64) before → AreOthers x before
others_before n [] x after up low = tt
others_before n (b ∷ before) x after up low = (
  ((λ e. absurd (omega (arith, e, later (b.first + 1) before x after up.1))), low.0),
  others_before (b.first + 1) before x after up.1 low.1,
)

others_above : (n : ℕ) (x : Part) (after : List Part) → x.first < n → Ascend n after → AllByRecursion (λ q. q.first < 2 ^ 64) after → AreOthers x after
others_above n x [] more up low = tt
others_above n x (q ∷ after) more up low = (((λ e. absurd (omega (arith, e, more, up.0))), low.0), others_above (q.first + 1) x after (omega (arith, more, up.0)) up.1 low.1)

ascends_after : (n : ℕ) (before : List Part) (x : Part) (after : List Part) → Ascend n (before ++ x ∷ after) → Ascend (x.first + 1) after
ascends_after n [] x after up = up.1
ascends_after n (b ∷ before) x after up = ascends_after (b.first + 1) before x after up.1

-- ---- a folder in which one segment changes

module _ (first : ℕ) (before : List Part) (x : Part) (after : List Part) (tail : List ℕ) (a : AreParts first (before ++ x ∷ after) tail) where
  all_low : AllByRecursion (λ q. q.first < 2 ^ 64) (before ++ x ∷ after)
  all_low = low_parts (end_from first (before ++ x ∷ after)) (before ++ x ∷ after) a.fits (begin_before first (before ++ x ∷ after) a.in_line)

  pub low : x.first < 2 ^ 64
  low = (after_part (λ q. q.first < 2 ^ 64) before (x ∷ after) all_low).0

  ahead : AreOthers x before
  ahead = others_before first before x after a.ascend (before_part (λ q. q.first < 2 ^ 64) before (x ∷ after) all_low)

  beyond : AreOthers x after
  beyond = others_above (x.first + 1) x after (omega arith) (ascends_after first before x after a.ascend) (after_part (λ q. q.first < 2 ^ 64) before (x ∷ after) all_low).1

  module _ (old c : Look) (held : Holds (before ++ x ∷ after) tail old) (others : (k : ℕ) → k ≢ x.first → k < 2 ^ 64 → c (segment_name k) ≡ old (segment_name k)) (is : c tail_name ≡ Some tail) where
    each_other : (parts : List Part) → AreOthers x parts → AllByRecursion (HasSegment old) parts → AllByRecursion (HasSegment c) parts
    each_other [] differ all = tt
    each_other (q ∷ parts) differ all = ((all.0.0, all.0.1, others q.first differ.0.0 differ.0.1 ∙ all.0.2), each_other parts differ.1 all.1)

    each_before : AllByRecursion (HasSegment c) before
    each_before = each_other before ahead (before_part (HasSegment old) before (x ∷ after) held.each)

    each_after : AllByRecursion (HasSegment c) after
    each_after = each_other after beyond (after_part (HasSegment old) before (x ∷ after) held.each).1

    -- the segment is another one, of the same number
    pub changed_holds : (y : Part) → y.first ≡ x.first → HasSegment c y → Holds (before ++ y ∷ after) tail c
    changed_holds y same has = record {
      each = both_parts (HasSegment c) before (y ∷ after) each_before (has, each_after);
      no_others = λ k small. elim (cases_eq k x.first) [
        | inl here ↦ inr (itself k (here ∙ sym same))
        | inr differs ↦ ⊎_elim (λ none. inl (others k differs small ∙ none)) (λ among. inr (subst (λ (l : List ℕ). Contains l k) numbers among)) (held.no_others k small)
      ];
      tail_is = is;
    }
      where
        numbers_of : (some : List Part) → firsts (some ++ x ∷ after) ≡ firsts (some ++ y ∷ after)
        numbers_of [] = ap (λ (n : ℕ). n ∷ firsts after) (sym same)
        numbers_of (b ∷ some) = ap (λ (l : List ℕ). b.first ∷ l) (numbers_of some)

        numbers : firsts (before ++ x ∷ after) ≡ firsts (before ++ y ∷ after)
        numbers = numbers_of before

        itself : (k : ℕ) → k ≡ y.first → Contains (firsts (before ++ y ∷ after)) k
        itself k e =
            subst (λ (l : List ℕ). Contains l k) (sym (map-append (λ (p : Part). p.first) before (y ∷ after)))
            (Contains-append_right (firsts before) (firsts (y ∷ after)) k (0, omega arith, sym e))

    -- it is there still
    pub unchanged_holds : c (segment_name x.first) ≡ old (segment_name x.first) → Holds (before ++ x ∷ after) tail c
    unchanged_holds same =
        let mine = (after_part (HasSegment old) before (x ∷ after) held.each).0 in changed_holds x refl (mine.0, mine.1, same ∙ mine.2)

    -- it is gone
    pub removed_holds : c (segment_name x.first) ≡ None → Holds (before ++ after) tail c
    removed_holds none = record {
      each = both_parts (HasSegment c) before after each_before each_after;
      no_others = λ k small. elim (cases_eq k x.first) [
        | inl here ↦ inl (ap (λ (n : ℕ). c (segment_name n)) here ∙ none)
        | inr differs ↦ ⊎_elim (λ absent. inl (others k differs small ∙ absent)) (λ among. inr (known k differs among)) (held.no_others k small)
      ];
      tail_is = is;
    }
      where
        after_it : (k : ℕ) → k ≢ x.first → Contains (x.first ∷ firsts after) k → Contains (firsts after) k
        after_it k differs (zero, within, same) = absurd (differs (sym same))
        after_it k differs (suc i, within, same) = (i, omega (arith, within), same)

        known : (k : ℕ) → k ≢ x.first → Contains (firsts (before ++ x ∷ after)) k → Contains (firsts (before ++ after)) k
        known k differs among =
            subst (λ (l : List ℕ). Contains l k) (sym (map-append (λ (p : Part). p.first) before after))
            (⊎_elim (λ one. Contains-append_left (firsts before) (firsts after) k one) (λ two. Contains-append_right (firsts before) (firsts after) k (after_it k differs two))
            (Contains-append_cases (firsts before) (firsts (x ∷ after)) k
            (subst (λ (l : List ℕ). Contains l k) (map-append (λ (p : Part). p.first) before (x ∷ after)) among)))

-- ---- a run is joined

module _ (first : ℕ) (before : List Part) (head : Part) (run after : List Part) (next : AreNext (end_of head) run) (tail : List ℕ) (a : AreParts first (before ++ head ∷ (run ++ after)) tail) where
  abbrev new : Part
  new = whole head run after next

  abbrev beside : List ℕ
  beside = segment_name head.first ++ part

  abbrev now : List Part
  now = before ++ whole head run after next ∷ (run ++ after)

  others_same : (old c : Look) → ElsewhereOfBoth beside (segment_name head.first) old c → (k : ℕ) → k ≢ head.first → k < 2 ^ 64 → c (segment_name k) ≡ old (segment_name k)
  others_same old c elsewhere k differs small =
      elsewhere (segment_name k) (beside_no_segment head.first k) (λ same. differs (segments_apart k head.first small (low first before head (run ++ after) tail a) same))

  tail_same : (old c : Look) → ElsewhereOfBoth beside (segment_name head.first) old c → c tail_name ≡ old tail_name
  tail_same old c elsewhere = elsewhere tail_name (beside_no_tail head.first) (λ same. segment_no_tail head.first (sym same))

  joined_holds : (old c : Look) → Holds (before ++ head ∷ (run ++ after)) tail old → ElsewhereOfBoth beside (segment_name head.first) old c → HasSegment c new → Holds now tail c
  joined_holds old c held elsewhere has =
      changed_holds first before head (run ++ after) tail a old c held (others_same old c elsewhere) (tail_same old c elsewhere ∙ held.tail_is) new refl has

  -- what a crash leaves of the log meanwhile
  pub joining_log : (earlier : Look → Type 0) → ((c : Look) → earlier c → Holds (before ++ head ∷ (run ++ after)) tail c) → (c : Look) → AddsSegment earlier new c
      → IsLog first (log_slots first (before ++ head ∷ (run ++ after)) tail) c
  joining_log earlier held c adds =
      let was = held adds.old adds.was in
      ⊎_elim
      (λ same. let kept : IsLog first (log_slots first (before ++ head ∷ (run ++ after)) tail) c = record {
        segments = before ++ head ∷ (run ++ after);
        tail = tail;
        parts = a;
        slots_are = refl;
        holds = unchanged_holds first before head (run ++ after) tail a adds.old c was (others_same adds.old c adds.elsewhere) (tail_same adds.old c adds.elsewhere ∙ was.tail_is) same;
      } in kept)
      (λ has. let log : IsLog first (log_slots first (before ++ head ∷ (run ++ after)) tail) c = record {
        segments = now;
        tail = tail;
        parts = whole_parts head run after next first before tail a;
        slots_are = sym (whole_slots head run after next first before tail a);
        holds = joined_holds adds.old c was adds.elsewhere has;
      } in log) adds.at_name

  -- what the log knows of its folder afterwards
  pub joined_folder : (sealed : ℕ) (old_hold new_hold : List ℕ → List ℕ → Type 0) (earlier later : Look → Type 0) (old_entry new_entry old_trust new_trust : List ℕ → Type 0)
      → IsSettledFolder old_hold earlier old_entry old_trust first sealed (before ++ head ∷ (run ++ after)) tail → FilesElsewhereOfBoth beside (segment_name head.first) old_hold new_hold
      → ((n : List ℕ) → new_entry n) → (old_trust tail_name → new_trust tail_name) → ComesFrom (ElsewhereOfBoth beside (segment_name head.first)) earlier later
      → ((c : Look) → later c → HasSegment c new)
      → IsSettledFolder new_hold later new_entry new_trust first sealed now tail
  joined_folder sealed old_hold new_hold earlier later old_entry new_entry old_trust new_trust f files entries trusts follows has = record {
    parts = whole_parts head run after next first before tail a;
    sealed_is = f.sealed_is ∙ sym (whole_ends head run after next first before tail a);
    on_disk = record {
      outcomes = λ c left.
          let from = follows c left in joined_holds from.0 c (f.on_disk.outcomes from.0 from.1) from.2 (has c left);
      tail_kept = record {
        file = λ bytes holds. f.on_disk.tail_kept.file bytes (files tail_name bytes (beside_no_tail head.first) (λ e. segment_no_tail head.first (sym e)) holds);
        entry = entries tail_name;
        trust = trusts f.on_disk.tail_kept.trust;
        outcomes = λ c left.
            let from = follows c left in tail_same from.0 c from.2 ∙ f.on_disk.tail_kept.outcomes from.0 from.1;
      };
    };
  }

-- ---- a segment goes that others cover

module _ (first : ℕ) (b : Part) (bs : List Part) (q : Part) (after : List Part) (tail : List ℕ) (covered : end_of q ≤ end_from first (b ∷ bs)) (a : AreParts first ((b ∷ bs) ++ q ∷ after) tail) where
  others_stay : (old c : Look) → LosesFile (segment_name q.first) old c → (k : ℕ) → k ≢ q.first → k < 2 ^ 64 → c (segment_name k) ≡ old (segment_name k)
  others_stay old c lost k differs small = lost.elsewhere (segment_name k) (λ same. differs (segments_apart k q.first small (low first (b ∷ bs) q after tail a) same))

  tail_stays : (old c : Look) → LosesFile (segment_name q.first) old c → c tail_name ≡ old tail_name
  tail_stays old c lost = lost.elsewhere tail_name (λ same. segment_no_tail q.first (sym same))

  gone_holds : (old c : Look) → Holds ((b ∷ bs) ++ q ∷ after) tail old → LosesFile (segment_name q.first) old c → c (segment_name q.first) ≡ None → Holds ((b ∷ bs) ++ after) tail c
  gone_holds old c held lost none = removed_holds first (b ∷ bs) q after tail a old c held (others_stay old c lost) (tail_stays old c lost ∙ held.tail_is) none

  -- what a crash leaves of the log meanwhile
  pub removing_log : (earlier : Look → Type 0) → ((c : Look) → earlier c → Holds ((b ∷ bs) ++ q ∷ after) tail c) → (c : Look) → LosesSegment earlier q.first c
      → IsLog first (log_slots first ((b ∷ bs) ++ q ∷ after) tail) c
  removing_log earlier held c loses =
      let old = loses.0 in
      let was = held old loses.1 in
      let lost = loses.2 in
      ⊎_elim
      (λ same. let kept : IsLog first (log_slots first ((b ∷ bs) ++ q ∷ after) tail) c = record {
        segments = (b ∷ bs) ++ q ∷ after;
        tail = tail;
        parts = a;
        slots_are = refl;
        holds = unchanged_holds first (b ∷ bs) q after tail a old c was (others_stay old c lost) (tail_stays old c lost ∙ was.tail_is) same;
      } in kept)
      (λ none. let log : IsLog first (log_slots first ((b ∷ bs) ++ q ∷ after) tail) c = record {
        segments = (b ∷ bs) ++ after;
        tail = tail;
        parts = left_parts first b bs q after tail covered a;
        slots_are = sym (left_slots first b bs q after tail covered a);
        holds = gone_holds old c was lost none;
      } in log) lost.at_name

  -- what the log knows of its folder afterwards
  pub removed_folder : (sealed : ℕ) (old_hold new_hold : List ℕ → List ℕ → Type 0) (earlier later : Look → Type 0) (old_entry new_entry old_trust new_trust : List ℕ → Type 0)
      → IsSettledFolder old_hold earlier old_entry old_trust first sealed ((b ∷ bs) ++ q ∷ after) tail → FilesElsewhere (segment_name q.first) old_hold new_hold
      → ((n : List ℕ) → new_entry n) → (old_trust tail_name → new_trust tail_name) → ComesFrom (LosesFile (segment_name q.first)) earlier later
      → ((c : Look) → later c → c (segment_name q.first) ≡ None)
      → IsSettledFolder new_hold later new_entry new_trust first sealed ((b ∷ bs) ++ after) tail
  removed_folder sealed old_hold new_hold earlier later old_entry new_entry old_trust new_trust f files entries trusts follows none = record {
    parts = left_parts first b bs q after tail covered a;
    sealed_is = f.sealed_is ∙ sym (left_ends first b bs q after tail covered a);
    on_disk = record {
      outcomes = λ c left.
          let from = follows c left in gone_holds from.0 c (f.on_disk.outcomes from.0 from.1) from.2 (none c left);
      tail_kept = record {
        file = λ bytes holds. f.on_disk.tail_kept.file bytes (files tail_name bytes (λ same. segment_no_tail q.first (sym same)) holds);
        entry = entries tail_name;
        trust = trusts f.on_disk.tail_kept.trust;
        outcomes = λ c left.
            let from = follows c left in tail_stays from.0 c from.2 ∙ f.on_disk.tail_kept.outcomes from.0 from.1;
      };
    };
  }

-- ---- which names change

pub changes_none : (look : Look) → ChangesSegments look look
changes_none look n = inl refl

pub changes_has : (old new : Look) → ChangesSegments old new → HasSegments new → HasSegments old
changes_has old new changes has = ⊎_elim (λ same. (has.0, subst IsSome same has.1)) (λ other. (other.0, other.1)) (changes (segment_name has.0))

pub changes_more : (old mid new : Look) → ChangesSegments old mid → ChangesSegments mid new → ChangesSegments old new
changes_more old mid new one two n = elim (two n) [
  | inl same ↦ elim (one n) [ inl was ↦ inl (same ∙ was) | inr changed ↦ inr changed ]
  | inr changed ↦ elim (one (segment_name changed.0)) [
    | inl was ↦ inr (changed.0, subst IsSome was changed.1, changed.2)
    | inr before ↦ elim before.2 [
      | inl same ↦ inr (before.0, before.1, subst (λ (m : List ℕ). (n ≡ m) ⊎ (n ≡ m ++ part)) same changed.2)
      | inr beside ↦ absurd (beside_no_segment before.0 changed.0 beside)
    ]
  ]
]

-- a segment of the log was removed
pub changes_removed : (first : ℕ) (old new : Look) → IsSome (old (segment_name first)) → Elsewhere (segment_name first) old new → ChangesSegments old new
changes_removed first old new some elsewhere n = elim (decided n (segment_name first)) [ inl e ↦ inr (first, some, inl e) | inr ne ↦ inl (elsewhere n ne) ]

-- one of them was replaced
pub changes_replaced : (first : ℕ) (old new : Look) → IsSome (old (segment_name first)) → ElsewhereOfBoth (segment_name first ++ part) (segment_name first) old new → ChangesSegments old new
changes_replaced first old new some elsewhere n = elim (decided n (segment_name first)) [
  | inl e ↦ inr (first, some, inl e)
  | inr ne ↦ elim (decided n (segment_name first ++ part)) [ inl e ↦ inr (first, some, inr e) | inr other ↦ inl (elsewhere n other ne) ]
]

-- a segment of the log is there
pub segment_there : (before : List Part) (x : Part) (after : List Part) (tail : List ℕ) (c : Look) → Holds (before ++ x ∷ after) tail c → IsSome (c (segment_name x.first))
segment_there before x after tail c held = let has = (after_part (HasSegment c) before (x ∷ after) held.each).0 in subst IsSome (sym has.2) refl

-- a file that is published under the name of a segment
pub adds_whole : (before : Look → Type 0) (first : ℕ) (all : List Slot) (bytes beside name : List ℕ) → IsStoreWith all bytes → beside ≡ segment_name first ++ part → name ≡ segment_name first
    → (c : Look) → IsOldOrWhole before beside name (Some bytes) c → AddsSegment before (record { first = first; slots = all }) c
adds_whole before first all bytes beside name store beside_is name_is c o = record {
  old = o.old;
  was = o.was;
  at_name = ⊎_elim (λ same. inl (ap c (sym name_is) ∙ same ∙ ap o.old name_is)) (λ whole. inr (bytes, store, ap c (sym name_is) ∙ whole)) o.at_name;
  elsewhere = λ m other neither. o.elsewhere m (λ e. other (e ∙ beside_is)) (λ e. neither (e ∙ name_is));
}
