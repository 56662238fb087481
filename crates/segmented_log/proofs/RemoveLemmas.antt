-- Old segments are removed of a folder whose log is not opened.
use Rattle.std.proofs.Common.{◌≡◌, ◌≢◌, inl, inr, ⊎_elim, ℕ, ◌+◌, ◌<◌, ◌^◌, max, List, [], ◌∷◌, length, drop, Some, None, refl, sym, ◌∙◌, ap, subst, arith}
use Rattle.std.specs.Prelude.{IsSome}
use Rattle.std.proofs.lemmas.Bool.{cases_eq}
use Rattle.store_folder.specs.Moments.{ComesFrom}
use Rattle.store_folder.specs.Folder.{Look, Elsewhere, LosesFile, Keeps}
use Rattle.store_folder.proofs.NamesLemmas.{decided}
use Rattle.store_format.specs.Block.{Slot}
use Rattle.store_format.specs.Laws.{StoresAreApart}
use Rattle.log_tail.specs.Tail.{first_of, IsTail}
use Rattle.segmented_log.specs.Names.{segment_name, tail_name}
use Rattle.segmented_log.specs.Parts.{Part, end_of, end_from, first_in, AreInLine}
use Rattle.segmented_log.specs.Log.{Holds, IsLog}
use Rattle.segmented_log.specs.Opening.{IsSyncedButTail, HasSegments}
use Rattle.segmented_log.specs.Dropping.{CanGo, DropsTo, LosesSegment, LosesOld, IsOldWithout, BeginsAt, TailBeginsAt, HasOnly, AreOfOneLog, HasNoOld}
use Rattle.segmented_log.proofs.NameLemmas.{segment_no_tail}
use Rattle.segmented_log.proofs.LoadLemmas.{same_only}
use Rattle.segmented_log.proofs.DropLemmas.{drops_none, drops_later, removes_more, dropped_log, others_apart, begins_low, others_stay, only_left}
use Rattle.segmented_log.proofs.UniqueLemmas.{log_parts}

pub loses_none : (number : ℕ) (c : Look) → LosesOld number c c
loses_none number c = record { files = λ n. inl refl; log = λ first all log. drops_none first number all c log }

pub loses_more : (number : ℕ) (old mid new : Look) → LosesOld number old mid → LosesOld number mid new → LosesOld number old new
loses_more number old mid new one two = record {
  files = removes_more number old mid new one.files two.files;
  log = λ first all log.
      let left = one.log first all log in
      drops_later first left.new_first number all left.rest left.is_rest new (two.log left.new_first left.rest left.log);
}

-- what could be left before
pub still_old : (number : ℕ) (before : Look → Type 0) (c : Look) → before c → IsOldWithout number before c
still_old number before c was = (c, was, loses_none number c)

-- the segments after the first, which begin where it ends
rest_line : (first number n next : ℕ) (p : Part) (parts : List Part) → AreOfOneLog (p ∷ parts) → first ≡ p.first → CanGo first number (p ∷ parts) n next
    → AreOfOneLog parts × (next ≡ first_in parts next)
rest_line first number n next p [] are is go = (record { in_line = tt; ascend = tt; fits = omega arith }, refl)
rest_line first number n next p (q ∷ parts) are is go =
    let ends : max p.first (end_of p) ≡ q.first = omega (arith, is, go.1, go.3) in (
      record {
        in_line = subst (λ (k : ℕ). AreInLine k (q ∷ parts)) ends are.in_line.2;
        ascend = (omega arith, are.ascend.1.1);
        fits = subst (λ (k : ℕ). end_from k (q ∷ parts) < 2 ^ 64) ends are.fits;
      },
      sym go.3,
    )

module _ (apart : StoresAreApart) (number first n next : ℕ) (p : Part) (parts : List Part) (are : AreOfOneLog (p ∷ parts)) (is : first ≡ p.first) (go : CanGo first number (p ∷ parts) n next) where
  line : AreInLine first (p ∷ parts)
  line = subst (λ (k : ℕ). AreInLine k (p ∷ parts)) (sym is) are.in_line

  fits : end_from first (p ∷ parts) < 2 ^ 64
  fits = subst (λ (k : ℕ). end_from k (p ∷ parts) < 2 ^ 64) (sym is) are.fits

  some : 0 < next
  some = omega (arith, go.0, go.1)

  -- a tail that begins where the last segment ends, if no other follows the first
  begins : (others : List Part) (tail : List ℕ) → first_in others n ≡ next → (0 < n → first_of tail ≡ n) → first_in others (first_of tail) ≡ next
  begins [] tail at known = known (omega (arith, some, at)) ∙ at
  begins (q ∷ others) tail at known = at

  module _ (old c : Look) (only : HasOnly (p ∷ parts) old) (tail : TailBeginsAt n old) (lost : LosesFile (segment_name first) old c) where
    tail_stays : c tail_name ≡ old tail_name
    tail_stays = lost.elsewhere tail_name (λ same. segment_no_tail first (sym same))

    module _ (f : ℕ) (all : List Slot) (log : IsLog f all old) where
      parts_are : log.segments ≡ p ∷ parts
      parts_are = log_parts apart old (p ∷ parts) are only f all log

      f_is : f ≡ first
      f_is = log.parts.first_is ∙ ap (λ (ps : List Part). first_in ps (first_of log.tail)) parts_are ∙ sym is

      can_go : CanGo f number log.segments (first_of log.tail) next
      can_go =
          subst (λ (ps : List Part). CanGo f number ps (first_of log.tail) next) (sym parts_are)
          (go.0, go.1 ∙ ap (λ (k : ℕ). k + length p.slots) (sym f_is), go.2, begins parts log.tail go.3 (tail log.tail log.holds.tail_is))

      drops : DropsTo f all number c
      drops =
          subst (λ (l : List Slot). DropsTo f l number c) (sym log.slots_are)
          (dropped_log f number next log.segments log.tail log.parts can_go (λ d. d ≡ old) (λ d same. subst (λ (e : Look). Holds log.segments log.tail e) (sym same) log.holds) c
          (old, refl, subst (λ (k : ℕ). LosesFile (segment_name k) old c) (sym f_is) lost))

    pub loses_first : LosesOld number old c
    loses_first = record {
      files = λ m. elim (decided m (segment_name first)) [
        | inl e ↦ ⊎_elim
            (λ same. inl (ap c e ∙ same ∙ ap old (sym e)))
            (λ none. inr (p, only.each.0, ap segment_name (sym is) ∙ sym e, omega (arith, go.1, go.2, is), ap c e ∙ none))
            lost.at_name
        | inr ne ↦ inl (lost.elsewhere m ne)
      ];
      log = drops;
    }

    module _ (none : c (segment_name first) ≡ None) where
      pub only_others : HasOnly parts c
      only_others = only_left first p parts is (begins_low first p parts line is fits) (others_apart first p parts line are.ascend.1 fits) old c lost only none

      pub tail_at : TailBeginsAt n c
      tail_at t at = tail t (sym tail_stays ∙ at)

      pub begins_after : BeginsAt next c
      begins_after f all log =
          let same = log_parts apart c parts (rest_line first number n next p parts are is go).0 only_others f all log in
          log.parts.first_is ∙ ap (λ (ps : List Part). first_in ps (first_of log.tail)) same ∙ begins parts log.tail go.3 (tail_at log.tail log.holds.tail_is)

  -- what a look sees of the segments is what a crash leaves of them, once it is gone
  still_synced : (seen new : Look) (may_leave leaves : Look → Type 0) → IsSyncedButTail seen may_leave → LosesFile (segment_name first) seen new → new (segment_name first) ≡ None
      → ComesFrom (LosesFile (segment_name first)) may_leave leaves → Keeps (segment_name first) None leaves → IsSyncedButTail new leaves
  still_synced seen new may_leave leaves synced lost none follows gone = record {
    segments = λ c left k low. elim (cases_eq k first) [
      | inl e ↦ ap (λ (m : ℕ). c (segment_name m)) e ∙ gone c left ∙ sym none ∙ ap (λ (m : ℕ). new (segment_name m)) (sym e)
      | inr differs ↦
          let from = follows c left in
          stays from.0 c from.2 k differs low ∙ synced.segments from.0 from.1 k low ∙ sym (stays seen new lost k differs low)
    ];
    no_tail = λ absent c left.
        let from = follows c left in
        let no : (m : ℕ) → tail_name ≢ segment_name m = λ m same. segment_no_tail m (sym same) in
        from.2.elsewhere tail_name (no first) ∙ synced.no_tail (sym (lost.elsewhere tail_name (no first)) ∙ absent) from.0 from.1;
  }
    where
      stays : (d c : Look) → LosesFile (segment_name first) d c → (k : ℕ) → k ≢ first → k < 2 ^ 64 → c (segment_name k) ≡ d (segment_name k)
      stays d c lost = others_stay first p parts is (begins_low first p parts line is fits) (others_apart first p parts line are.ascend.1 fits) d c lost

-- a segment that is there
has_some : (c : Look) (p : Part) (parts : List Part) → HasOnly (p ∷ parts) c → HasSegments c
has_some c p parts only = (p.first, subst IsSome (sym only.each.0.2) refl)

module _ (parts : List Part) (are : AreOfOneLog parts) (c : Look) (only : HasOnly parts c) where
  -- what a crash leaves of the segments is what a look sees of them
  pub only_outcomes : (may_leave : Look → Type 0) → IsSyncedButTail c may_leave → (d : Look) → may_leave d → HasOnly parts d
  only_outcomes may_leave synced d left = same_only c d parts are only (synced.segments d left)

  pub begins_at : StoresAreApart → (n : ℕ) → ((tail : List ℕ) → c tail_name ≡ Some tail → IsTail tail → n ≡ first_of tail) → BeginsAt (first_in parts n) c
  begins_at apart n at f all log =
      log.parts.first_is
      ∙ ap (λ (ps : List Part). first_in ps (first_of log.tail)) (log_parts apart c parts are only f all log)
      ∙ ap (λ (m : ℕ). first_in parts m) (sym (at log.tail log.holds.tail_is log.parts.is_tail))

  pub begins_itself : (n : ℕ) → first_in parts n ≡ first_in parts (first_in parts n)
  begins_itself n = by parts
    where
      by : (some : List Part) → first_in some n ≡ first_in some (first_in some n)
      by [] = refl
      by (p ∷ ps) = refl

-- What is known while the first segments are removed: these are left.
pub record AreLeft (number : ℕ) (parts : List Part) (n first : ℕ) (old : Look) (before : Look → Type 0) (seen : Look) (may_leave : Look → Type 0) : Type 0 where
  pub are : AreOfOneLog parts
  pub is : first ≡ first_in parts first
  pub loses : LosesOld number old seen
  pub begins : BeginsAt first seen
  pub outcomes : (c : Look) → may_leave c → IsOldWithout number before c × HasOnly parts c × TailBeginsAt n c
  pub synced : IsSyncedButTail seen may_leave
  pub some : n ≡ 0 → HasSegments old → HasSegments seen

module _ (apart : StoresAreApart) (number n first : ℕ) (old : Look) (before : Look → Type 0) (seen : Look) (may_leave : Look → Type 0) (possible : may_leave seen) where
  -- one segment more is removed, or the removal has begun
  pub one_loses : (parts : List Part) (next : ℕ) → AreLeft number parts n first old before seen may_leave → CanGo first number parts n next → (c : Look) → LosesSegment may_leave first c
      → IsOldWithout number before c
  one_loses [] next left go c loses = absurd go
  one_loses (p ∷ parts) next left go c loses =
      let was = left.outcomes loses.0 loses.1 in
      (was.0.0, was.0.1, loses_more number was.0.0 loses.0 c was.0.2 (loses_first apart number first n next p parts left.are left.is go loses.0 c was.1 was.2 loses.2))

  pub one_more : (parts : List Part) (next : ℕ) → AreLeft number parts n first old before seen may_leave → CanGo first number parts n next → (new : Look) (leaves : Look → Type 0)
      → Elsewhere (segment_name first) seen new → new (segment_name first) ≡ None → ComesFrom (LosesFile (segment_name first)) may_leave leaves → Keeps (segment_name first) None leaves
      → AreLeft number (drop 1 parts) n next old before new leaves
  one_more [] next left go new leaves elsewhere none follows gone = absurd go
  one_more (p ∷ parts) next left go new leaves elsewhere none follows gone =
      let lost : LosesFile (segment_name first) seen new = record { at_name = inr none; elsewhere = elsewhere } in
      let here = left.outcomes seen possible in
      let line = rest_line first number n next p parts left.are left.is go in
      record {
        are = line.0;
        is = line.1;
        loses = loses_more number old seen new left.loses (loses_first apart number first n next p parts left.are left.is go seen new here.1 here.2 lost);
        begins = begins_after apart number first n next p parts left.are left.is go seen new here.1 here.2 lost none;
        outcomes = λ c leaves_it.
            let from = follows c leaves_it in
            let was = left.outcomes from.0 from.1 in (
              one_loses (p ∷ parts) next left go c from,
              only_others apart number first n next p parts left.are left.is go from.0 c was.1 was.2 from.2 (gone c leaves_it),
              tail_at apart number first n next p parts left.are left.is go from.0 c was.1 was.2 from.2 (gone c leaves_it),
            );
        synced = still_synced apart number first n next p parts left.are left.is go seen new may_leave leaves left.synced lost none follows gone;
        some = λ zero has. still parts go.3 zero (only_others apart number first n next p parts left.are left.is go seen new here.1 here.2 lost none);
      }
    where
      still : (others : List Part) → first_in others n ≡ next → n ≡ 0 → HasOnly others new → HasSegments new
      still [] at zero only = absurd (omega (arith, go.0, go.1, at, zero))
      still (q ∷ others) at zero only = has_some new q others only

  -- no other can be removed
  pub none_more : (parts : List Part) → AreLeft number parts n first old before seen may_leave → ((next : ℕ) → CanGo first number parts n next → ⊥) → HasNoOld number seen
  none_more parts left stays = record { segments = parts; only = (left.outcomes seen possible).1; are = left.are; stays = by parts left.is stays }
    where
      by : (some : List Part) → first ≡ first_in some first → ((next : ℕ) → CanGo first number some n next → ⊥) → (next : ℕ) → CanGo (first_in some 0) number some 0 next → ⊥
      by [] is none next go = go
      by (p ∷ []) is none next go = absurd (omega (arith, go.0, go.1, go.3))
      by (p ∷ q ∷ parts) is none next go = none next (go.0, go.1 ∙ ap (λ (k : ℕ). k + length p.slots) (sym is), go.2, go.3)
