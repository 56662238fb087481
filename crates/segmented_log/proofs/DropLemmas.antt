-- A log whose first segment is removed.
use Rattle.std.proofs.Common.{◌≡◌, ◌≢◌, ◌⊎◌, inl, inr, ⊎_elim, ℕ, zero, suc, ◌+◌, ◌-◌, ◌<◌, ◌≤◌, ◌^◌, max, List, [], ◌∷◌, ◌++◌, length, drop, map, Option, Some}
use Rattle.std.proofs.Common.{None, refl, sym, ◌∙◌, ap, subst, arith, length-drop, append_assoc}
use Rattle.std.proofs.lemmas.List.{drop-drop, drop_at}
use Rattle.std.proofs.lemmas.Bool.{cases_eq}
use Rattle.std.specs.List.{AllByRecursion, Contains}
use Rattle.store_folder.specs.Moments.{ComesFrom}
use Rattle.store_folder.specs.Folder.{Look, Elsewhere, FilesElsewhere, LosesFile, LeadsTo}
use Rattle.store_folder.proofs.NamesLemmas.{decided}
use Rattle.store_format.specs.Block.{Slot}
use Rattle.log_tail.specs.Tail.{first_of}
use Rattle.segmented_log.specs.Names.{segment_name, tail_name}
use Rattle.segmented_log.specs.Parts.{Part, end_of, tail_slots, first_in, end_from, joined, AreInLine, Ascend, log_slots, AreParts}
use Rattle.segmented_log.specs.Log.{HasSegment, Holds, IsLog}
use Rattle.segmented_log.specs.Settled.{IsSettledFolder}
use Rattle.segmented_log.specs.Dropping.{CanGo, IsRest, DropsTo, LosesSegment, RemovesOnly, HasOnly}
use Rattle.segmented_log.proofs.NameLemmas.{segment_no_tail, segments_apart}
use Rattle.segmented_log.proofs.HoldLemmas.{firsts, same_segments, only_of}
use Rattle.segmented_log.proofs.PartLemmas.{begin_before}
use Rattle.segmented_log.proofs.ReadLemmas.{slots_end}

-- what is left of what is left
pub rest_of_rest : (first mid last number : ℕ) (all some few : List Slot) → IsRest first all number mid some → IsRest mid some number last few → IsRest first all number last few
rest_of_rest first mid last number all some few one two =
    let size : length some ≡ length all - (mid - first) = ap length one.slots_are ∙ length-drop (mid - first) all in
    let sum : (mid - first) + (last - mid) ≡ last - first = omega (arith, one.grows, two.grows) in
    record {
      grows = omega (arith, one.grows, two.grows);
      before = omega (arith, one.before, two.before);
      within = omega (arith, one.within, two.within, one.grows, size);
      slots_are =
          two.slots_are
          ∙ ap (λ (l : List Slot). drop (last - mid) l) one.slots_are
          ∙ drop-drop (last - mid) (mid - first) all
          ∙ ap (λ (n : ℕ). drop n all) sum;
    }

pub rest_itself : (first number : ℕ) (all : List Slot) → IsRest first all number first all
rest_itself first number all =
    let none : first - first ≡ 0 = omega arith in
    record {
      grows = omega arith;
      before = omega arith;
      within = omega arith;
      slots_are = ap (λ (n : ℕ). drop n all) (sym none);
    }

pub drops_later : (first mid number : ℕ) (all some : List Slot) → IsRest first all number mid some → (c : Look) → DropsTo mid some number c → DropsTo first all number c
drops_later first mid number all some one c two = record {
  new_first = two.new_first;
  rest = two.rest;
  is_rest = rest_of_rest first mid two.new_first number all some two.rest one two.is_rest;
  log = two.log;
}

pub drops_none : (first number : ℕ) (all : List Slot) (c : Look) → IsLog first all c → DropsTo first all number c
drops_none first number all c log = record { new_first = first; rest = all; is_rest = rest_itself first number all; log = log }

-- names that lose segments, and then more of them
pub removes_more : (number : ℕ) (old mid new : Look) → RemovesOnly number old mid → RemovesOnly number mid new → RemovesOnly number old new
removes_more number old mid new one two n = elim (two n) [
  | inl same ↦ elim (one n) [
    | inl was ↦ inl (same ∙ was)
    | inr gone ↦ inr (gone.0, gone.1, gone.2, gone.3, same ∙ gone.4)
  ]
  | inr gone ↦ elim (one n) [
    | inl was ↦ inr (gone.0, (gone.1.0, gone.1.1, sym (at n gone.0 gone.2 was) ∙ gone.1.2), gone.2, gone.3, gone.4)
    | inr before ↦ absurd (there gone.1.0 (sym before.4 ∙ ap mid (sym gone.2) ∙ gone.1.2))
  ]
]
  where
    at : (n : List ℕ) (p : Part) → segment_name p.first ≡ n → mid n ≡ old n → mid (segment_name p.first) ≡ old (segment_name p.first)
    at n p is same = ap mid is ∙ same ∙ ap old (sym is)

    there : (content : List ℕ) → None ≡ Some content → ⊥
    there content e = cc e

-- the numbers of the parts after one are greater, and fit a name
above : (p : Part) (n : ℕ) (others : List Part) → p.first < n → Ascend n others → AllByRecursion (λ q. q.first < 2 ^ 64) others
    → AllByRecursion (λ q. (q.first ≢ p.first) × (q.first < 2 ^ 64)) others
above p n [] more up low = tt
above p n (q ∷ others) more up low = (
  ((λ e. absurd (omega (arith, e, more, up.0))), low.0),
  above p (q.first + 1) others (omega (arith, more, up.0)) up.1 low.1,
)

low_parts : (n : ℕ) (others : List Part) → n < 2 ^ 64 → AllByRecursion (λ q. q.first < n) others → AllByRecursion (λ q. q.first < 2 ^ 64) others
low_parts n [] low below = tt
low_parts n (q ∷ others) low below = (omega (arith, low, below.0), low_parts n others low below.1)

pub others_apart : (first : ℕ) (p : Part) (parts : List Part) → AreInLine first (p ∷ parts) → Ascend (p.first + 1) parts → end_from first (p ∷ parts) < 2 ^ 64
    → AllByRecursion (λ q. (q.first ≢ p.first) × (q.first < 2 ^ 64)) parts
others_apart first p parts line up fits =
    above p (p.first + 1) parts (omega arith) up (low_parts (end_from first (p ∷ parts)) parts fits (begin_before first (p ∷ parts) line).1)

pub begins_low : (first : ℕ) (p : Part) (parts : List Part) → AreInLine first (p ∷ parts) → first ≡ p.first → end_from first (p ∷ parts) < 2 ^ 64 → first < 2 ^ 64
begins_low first p parts line is fits = omega (arith, fits, (begin_before first (p ∷ parts) line).0, is)

-- the file of a segment is removed, beside others
module _ (first : ℕ) (p : Part) (parts : List Part) (is : first ≡ p.first) (small : first < 2 ^ 64) (apart : AllByRecursion (λ q. (q.first ≢ p.first) × (q.first < 2 ^ 64)) parts) (old c : Look)
    (lost : LosesFile (segment_name first) old c) where
  pub others_stay : (k : ℕ) → k ≢ first → k < 2 ^ 64 → c (segment_name k) ≡ old (segment_name k)
  others_stay k differs low = lost.elsewhere (segment_name k) (λ same. differs (segments_apart k first low small same))

  each_left : (others : List Part) → AllByRecursion (λ q. (q.first ≢ p.first) × (q.first < 2 ^ 64)) others → AllByRecursion (HasSegment old) others → AllByRecursion (HasSegment c) others
  each_left [] differ all = tt
  each_left (q ∷ others) differ all = (
    (all.0.0, all.0.1, others_stay q.first (λ e. differ.0.0 (e ∙ is)) differ.0.1 ∙ all.0.2),
    each_left others differ.1 all.1,
  )

  known : (k : ℕ) → k ≢ first → Contains (firsts (p ∷ parts)) k → Contains (firsts parts) k
  known k differs (zero, within, at) = absurd (differs (sym at ∙ sym is))
  known k differs (suc i, within, at) = (i, omega (arith, within), at)

  pub only_left : HasOnly (p ∷ parts) old → c (segment_name first) ≡ None → HasOnly parts c
  only_left only none = record {
    each = each_left parts apart only.each.1;
    no_others = λ k low. elim (cases_eq k first) [
      | inl same ↦ inl (ap (λ (n : ℕ). c (segment_name n)) same ∙ none)
      | inr differs ↦ ⊎_elim (λ absent. inl (others_stay k differs low ∙ absent)) (λ among. inr (known k differs among)) (only.no_others k low)
    ];
  }

-- the parts after the first, which begin where it ends
module _ (first number next : ℕ) (p : Part) (parts : List Part) (tail : List ℕ) (a : AreParts first (p ∷ parts) tail) (go : CanGo first number (p ∷ parts) (first_of tail) next) where
  ends : max first (end_of p) ≡ next
  ends = omega (arith, a.first_is, go.1)

  ascends : (others : List Part) → Ascend (p.first + 1) others → first_in others (first_of tail) ≡ next → Ascend next others
  ascends [] up is = tt
  ascends (q ∷ others) up is = (omega (arith, is), up.1)

  pub rest_end : end_from next parts ≡ end_from first (p ∷ parts)
  rest_end = ap (λ (n : ℕ). end_from n parts) (sym ends)

  pub rest_parts : AreParts next parts tail
  rest_parts = record {
    first_is = sym go.3;
    in_line = subst (λ (n : ℕ). AreInLine n parts) ends a.in_line.2;
    ascend = ascends parts a.ascend.1 go.3;
    fits = omega (arith, rest_end, a.fits);
    is_tail = a.is_tail;
    meets = omega (arith, rest_end, a.meets);
    reaches = omega (arith, rest_end, a.reaches);
  }

  abbrev after : List Slot
  after = drop (end_from first (p ∷ parts) - first_of tail) (tail_slots tail)

  pub rest_slots : log_slots next parts tail ≡ drop (next - first) (log_slots first (p ∷ parts) tail)
  rest_slots =
      let none : first - p.first ≡ 0 = omega (arith, a.first_is) in
      let size : length p.slots ≡ next - first = omega (arith, go.1) in
      let whole : log_slots first (p ∷ parts) tail ≡ p.slots ++ (joined next parts ++ after) =
      (λ i. (drop (none i) p.slots ++ joined (ends i) parts) ++ after) ∙ append_assoc p.slots (joined next parts) after in
      ap (λ (n : ℕ). joined next parts ++ drop (n - first_of tail) (tail_slots tail)) rest_end
      ∙ sym (drop_at p.slots (joined next parts ++ after) (next - first) size)
      ∙ ap (λ (l : List Slot). drop (next - first) l) (sym whole)

  pub rest_is : IsRest first (log_slots first (p ∷ parts) tail) number next (log_slots next parts tail)
  rest_is = record {
    grows = omega (arith, go.1);
    before = omega (arith, go.2);
    within = omega (arith, slots_end first (p ∷ parts) tail a, slots_end next parts tail rest_parts);
    slots_are = rest_slots;
  }

  apart : AllByRecursion (λ q. (q.first ≢ p.first) × (q.first < 2 ^ 64)) parts
  apart = others_apart first p parts a.in_line a.ascend.1 a.fits

  small : first < 2 ^ 64
  small = begins_low first p parts a.in_line a.first_is a.fits

  module _ (old c : Look) (held : Holds (p ∷ parts) tail old) (lost : LosesFile (segment_name first) old c) where
    other_names : (k : ℕ) → k ≢ first → k < 2 ^ 64 → c (segment_name k) ≡ old (segment_name k)
    other_names = others_stay first p parts a.first_is small apart old c lost

    tail_same : c tail_name ≡ Some tail
    tail_same = lost.elsewhere tail_name (λ same. segment_no_tail first (sym same)) ∙ held.tail_is

    -- the segment is gone
    pub gone_holds : c (segment_name first) ≡ None → Holds parts tail c
    gone_holds none =
        let only = only_left first p parts a.first_is small apart old c lost (only_of (p ∷ parts) tail old held) none in
        record { each = only.each; no_others = only.no_others; tail_is = tail_same }

    -- it is there still
    pub kept_holds : c (segment_name first) ≡ old (segment_name first) → Holds (p ∷ parts) tail c
    kept_holds same = same_segments old c (p ∷ parts) tail tail held (own_same (a.first_is), parts_same parts apart) by_name tail_same
      where
        by_name : (k : ℕ) → k < 2 ^ 64 → c (segment_name k) ≡ old (segment_name k)
        by_name k low = elim (cases_eq k first) [
          | inl e ↦ ap (λ (n : ℕ). c (segment_name n)) e ∙ same ∙ ap (λ (n : ℕ). old (segment_name n)) (sym e)
          | inr differs ↦ other_names k differs low
        ]

        own_same : first ≡ p.first → c (segment_name p.first) ≡ old (segment_name p.first)
        own_same e = subst (λ (n : ℕ). c (segment_name n) ≡ old (segment_name n)) e same

        parts_same : (others : List Part) → AllByRecursion (λ q. (q.first ≢ p.first) × (q.first < 2 ^ 64)) others → AllByRecursion (λ q. c (segment_name q.first) ≡ old (segment_name q.first)) others
        parts_same [] differ = tt
        parts_same (q ∷ others) differ = (by_name q.first differ.0.1, parts_same others differ.1)

  -- what a crash leaves of the log meanwhile
  pub lost_log : (before : Look → Type 0) → ((c : Look) → before c → Holds (p ∷ parts) tail c) → (c : Look) → LosesSegment before first c → DropsTo first (log_slots first (p ∷ parts) tail) number c
  lost_log before held c loses =
      let old = loses.0 in
      let was = held old loses.1 in
      ⊎_elim
      (λ same. drops_none first number (log_slots first (p ∷ parts) tail) c
      (record { segments = p ∷ parts; tail = tail; parts = a; slots_are = refl; holds = kept_holds old c was loses.2 same }))
      (λ none. let left : DropsTo first (log_slots first (p ∷ parts) tail) number c = record {
        new_first = next;
        rest = log_slots next parts tail;
        is_rest = rest_is;
        log = record { segments = parts; tail = tail; parts = rest_parts; slots_are = refl; holds = gone_holds old c was loses.2 none };
      } in left) loses.2.at_name

  -- what the log knows of its folder afterwards
  pub settled_rest : (sealed : ℕ) (old_hold new_hold : List ℕ → List ℕ → Type 0) (before after_it : Look → Type 0) (old_entry new_entry old_trust new_trust : List ℕ → Type 0)
      → IsSettledFolder old_hold before old_entry old_trust first sealed (p ∷ parts) tail → FilesElsewhere (segment_name first) old_hold new_hold → ((n : List ℕ) → new_entry n)
      → (old_trust tail_name → new_trust tail_name)
      → ComesFrom (LosesFile (segment_name first)) before after_it → ((c : Look) → after_it c → c (segment_name first) ≡ None)
      → IsSettledFolder new_hold after_it new_entry new_trust next sealed parts tail
  settled_rest sealed old_hold new_hold before after_it old_entry new_entry old_trust new_trust f files entries trusts follows none = record {
    parts = rest_parts;
    sealed_is = f.sealed_is ∙ sym rest_end;
    on_disk = record {
      outcomes = λ c left.
          let from = follows c left in gone_holds from.0 c (f.on_disk.outcomes from.0 from.1) from.2 (none c left);
      tail_kept = record {
        file = λ bytes holds. f.on_disk.tail_kept.file bytes (files tail_name bytes (λ same. segment_no_tail first (sym same)) holds);
        entry = entries tail_name;
        trust = trusts f.on_disk.tail_kept.trust;
        outcomes = λ c left.
            let from = follows c left in from.2.elsewhere tail_name (λ same. segment_no_tail first (sym same)) ∙ f.on_disk.tail_kept.outcomes from.0 from.1;
      };
    };
  }

-- the same of segments the first of which can be removed
module _ (first number next : ℕ) (segments : List Part) (tail : List ℕ) (a : AreParts first segments tail) (go : CanGo first number segments (first_of tail) next) where
  pub dropped_rest : IsRest first (log_slots first segments tail) number next (log_slots next (drop 1 segments) tail)
  dropped_rest = by segments a go
    where
      by : (some : List Part) → AreParts first some tail → CanGo first number some (first_of tail) next → IsRest first (log_slots first some tail) number next (log_slots next (drop 1 some) tail)
      by [] b can = absurd can
      by (p ∷ parts) b can = rest_is first number next p parts tail b can

  pub dropped_log : (before : Look → Type 0) → ((c : Look) → before c → Holds segments tail c) → (c : Look) → LosesSegment before first c → DropsTo first (log_slots first segments tail) number c
  dropped_log before held c loses = by segments a go held
    where
      by : (some : List Part) → AreParts first some tail → CanGo first number some (first_of tail) next → ((d : Look) → before d → Holds some tail d)
          → DropsTo first (log_slots first some tail) number c
      by [] b can has = absurd can
      by (p ∷ parts) b can has = lost_log first number next p parts tail b can before has c loses

  pub dropped_folder : (sealed : ℕ) (old_hold new_hold : List ℕ → List ℕ → Type 0) (before after : Look → Type 0) (old_entry new_entry old_trust new_trust : List ℕ → Type 0)
      → IsSettledFolder old_hold before old_entry old_trust first sealed segments tail → FilesElsewhere (segment_name first) old_hold new_hold → ((n : List ℕ) → new_entry n)
      → (old_trust tail_name → new_trust tail_name)
      → ComesFrom (LosesFile (segment_name first)) before after → ((c : Look) → after c → c (segment_name first) ≡ None)
      → IsSettledFolder new_hold after new_entry new_trust next sealed (drop 1 segments) tail
  dropped_folder sealed old_hold new_hold before after old_entry new_entry old_trust new_trust settled files entries trusts follows none = by segments a go settled
    where
      by : (some : List Part) → AreParts first some tail → CanGo first number some (first_of tail) next → IsSettledFolder old_hold before old_entry old_trust first sealed some tail
          → IsSettledFolder new_hold after new_entry new_trust next sealed (drop 1 some) tail
      by [] b can f = absurd can
      by (p ∷ parts) b can f = settled_rest first number next p parts tail b can sealed old_hold new_hold before after old_entry new_entry old_trust new_trust f files entries trusts follows none

  pub dropped_names : (old new : Look) → Holds segments tail old → Elsewhere (segment_name first) old new → new (segment_name first) ≡ None → RemovesOnly number old new
  dropped_names old new held elsewhere none n = by segments a go held
    where
      gone : (p : Part) (parts : List Part) → AreParts first (p ∷ parts) tail → CanGo first number (p ∷ parts) (first_of tail) next → HasSegment old p → n ≡ segment_name first
          → (part : Part) × HasSegment old part × (segment_name part.first ≡ n) × (end_of part ≤ number) × (new n ≡ None)
      gone p parts b can has e = (p, has, ap segment_name (sym b.first_is) ∙ sym e, omega (arith, b.first_is, can.1, can.2), ap new e ∙ none)

      by : (some : List Part) → AreParts first some tail → CanGo first number some (first_of tail) next → Holds some tail old
          → (new n ≡ old n) ⊎ ((part : Part) × HasSegment old part × (segment_name part.first ≡ n) × (end_of part ≤ number) × (new n ≡ None))
      by [] b can has = absurd can
      by (p ∷ parts) b can has = elim (decided n (segment_name first)) [ inl e ↦ inr (gone p parts b can has.each.0 e) | inr ne ↦ inl (elsewhere n ne) ]

pub dropped_later : (first number n next : ℕ) (segments : List Part) → CanGo first number segments n next → first < next
dropped_later first number n next [] go = absurd go
dropped_later first number n next (p ∷ parts) go = omega (arith, go.0, go.1)

-- things that stand for segments, the first of which can be removed
pub some_can : {X : Type 0} (f : X → Part) (xs : List X) (first number n next : ℕ) → CanGo first number (map f xs) n next → 0 < length xs
some_can f [] first number n next go = absurd go
some_can f (x ∷ xs) first number n next go = omega arith

-- a file that a folder's sync leaves out is not left
pub leads_to_none : (seen left : Option (List ℕ)) (may_hold : List ℕ → Type 0) → seen ≡ None → LeadsTo seen may_hold left → left ≡ None
leads_to_none None left may_hold is leads = leads
leads_to_none (Some bytes) left may_hold is leads = let no : ⊥ = cc in absurd no
