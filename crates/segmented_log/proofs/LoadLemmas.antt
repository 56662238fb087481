-- The folder of a log that is opened.
use Rattle.std.proofs.Common.{◌≡◌, ◌⊎◌, inl, inr, ⊎_elim, ℕ, ◌+◌, ◌-◌, ◌<◌, ◌≤◌, ◌^◌, List, [], ◌∷◌, ◌++◌, length, drop, map, Option, Some, None, refl, sym, ◌∙◌, ap, subst}
use Rattle.std.specs.Prelude.{IsSome}
use Rattle.std.specs.List.{Contains}
use Rattle.store_folder.specs.Moments.{ComesFrom}
use Rattle.store_folder.specs.Folder.{Look, ElsewhereOfBoth, AreNames}
use Rattle.store_folder.specs.Publishing.{part}
use Rattle.segmented_log.specs.Names.{segment_name, tail_name}
use Rattle.store_format.specs.Block.{doc}
use Rattle.log_tail.specs.Tail.{records_of, first_of}
use Rattle.segmented_log.specs.Parts.{Part, first_in, end_from, joined, log_slots, AreParts}
use Rattle.segmented_log.specs.Log.{Holds, IsLog}
use Rattle.segmented_log.specs.Opening.{AreNumbersIn, IsSyncedButTail, IsTailOf}
use Rattle.segmented_log.specs.Dropping.{AreOfOneLog, HasOnly}
use Rattle.segmented_log.proofs.NameLemmas.{segment_no_tail, segment_no_tail_beside}
use Rattle.segmented_log.proofs.HoldLemmas.{firsts, each_stays, all_same_below}
use Rattle.segmented_log.proofs.PartLemmas.{begin_before}

module _ (seen : Look) (names : List (List ℕ)) (numbers : List ℕ) (all : AreNames seen names) (of : AreNumbersIn names numbers) (segments : List Part) (firsts_are : firsts segments ≡ numbers) where
  pub no_others : (k : ℕ) → k < 2 ^ 64 → (seen (segment_name k) ≡ None) ⊎ Contains (firsts segments) k
  no_others k low = by (seen (segment_name k)) refl
    where
      by : (o : Option (List ℕ)) → seen (segment_name k) ≡ o → (seen (segment_name k) ≡ None) ⊎ Contains (firsts segments) k
      by None is = inl is
      by (Some bytes) is =
          inr (subst (λ (l : List ℕ). Contains l k) (sym firsts_are) (of.each k low (all.each (segment_name k) (subst IsSome (sym is) refl))))

-- the same names have the same segments
pub same_only : (old c : Look) (parts : List Part) → AreOfOneLog parts → HasOnly parts old → ((k : ℕ) → k < 2 ^ 64 → c (segment_name k) ≡ old (segment_name k)) → HasOnly parts c
same_only old c parts are only same = record {
  each = each_stays old c parts (all_same_below old c (end_from (first_in parts 0) parts) parts are.fits (begin_before (first_in parts 0) parts are.in_line) same) only.each;
  no_others = λ k low. ⊎_elim (λ none. inl (same k low ∙ none)) (λ known. inr known) (only.no_others k low);
}

-- what a look sees of the segments is what a crash leaves of them
pub loaded_outcomes : (seen : Look) (parts : List Part) → AreOfOneLog parts → HasOnly parts seen → (tail : List ℕ) (before after : Look → Type 0) → IsSyncedButTail seen before
    → ComesFrom (ElsewhereOfBoth (tail_name ++ part) tail_name) before after → ((c : Look) → after c → c tail_name ≡ Some tail) → (c : Look) → after c → Holds parts tail c
loaded_outcomes seen parts are only tail before after synced follows tail_is c left =
    let from = follows c left in
    let has = same_only seen c parts are only
    (λ k low. from.2 (segment_name k) (segment_no_tail_beside k) (segment_no_tail k) ∙ synced.segments from.0 from.1 k low) in
    record { each = has.each; no_others = has.no_others; tail_is = tail_is c left }

same_parts : (first : ℕ) (segments : List Part) (bytes whole : List ℕ) → IsTailOf (Some bytes) whole → AreParts first segments whole → AreParts first segments bytes
same_parts first segments bytes whole same parts = record {
  first_is = parts.first_is ∙ ap (λ n. first_in segments n) same.1;
  in_line = parts.in_line;
  ascend = parts.ascend;
  fits = parts.fits;
  is_tail = same.0;
  meets = subst (λ n. n ≤ end_from first segments) same.1 parts.meets;
  reaches = subst (λ n. end_from first segments ≤ n + length (records_of bytes)) same.1 (subst (λ r. end_from first segments ≤ first_of whole + length r) same.2 parts.reaches);
}

-- a log whose tail may have a torn end
pub is_log : (seen : Look) (segments : List Part) → HasOnly segments seen → (first : ℕ) (bytes whole : List ℕ) → seen tail_name ≡ Some bytes → IsTailOf (Some bytes) whole
    → AreParts first segments whole → IsLog first (log_slots first segments whole) seen
is_log seen segments only first bytes whole at same parts = record {
  segments = segments;
  tail = bytes;
  parts = same_parts first segments bytes whole same parts;
  slots_are =
      ap (λ n. joined first segments ++ drop (end_from first segments - n) (map doc (records_of whole))) same.1
      ∙ ap (λ r. joined first segments ++ drop (end_from first segments - first_of bytes) (map doc r)) same.2;
  holds = record { each = only.each; no_others = only.no_others; tail_is = at };
}

-- the first numbers of things that stand for parts
pub firsts_of : {X : Type 0} (f : X → Part) (g : X → ℕ) → ((x : X) → (f x).first ≡ g x) → (xs : List X) → firsts (map f xs) ≡ map g xs
firsts_of f g same [] = refl
firsts_of f g same (x ∷ xs) = λ i. same x i ∷ firsts_of f g same xs i
