-- What a crash leaves while a tail's records become a segment.
use Rattle.std.proofs.Common.{◌≡◌, ◌≢◌, inl, inr, ⊎_elim, ℕ, ◌-◌, ◌<◌, ◌^◌, List, [], ◌∷◌, ◌++◌, length, drop, map, Some, refl, sym, ◌∙◌, ap, subst, arith}
use Rattle.std.proofs.lemmas.List.{map_push, drop-map}
use Rattle.std.proofs.lemmas.List.Elements.{Contains-append_left, Contains-push}
use Rattle.std.proofs.lemmas.Bool.{cases_eq}
use Rattle.std.specs.List.{AllByRecursion, Contains}
use Rattle.store_folder.specs.Moments.{ComesFrom}
use Rattle.store_folder.specs.Folder.{Look, ElsewhereOfBoth, FilesElsewhereOfBoth}
use Rattle.store_folder.specs.Publishing.{part, IsOldOrWhole}
use Rattle.store_format.specs.Block.{doc}
use Rattle.log_tail.specs.declared.batches.Place.{Place}
use Rattle.log_tail.specs.Place.{content, contents}
use Rattle.log_tail.specs.Tail.{records_of, first_of, IsTail}
use Rattle.segmented_log.specs.Names.{segment_name, tail_name}
use Rattle.segmented_log.specs.Parts.{Part, tail_slots, tail_end, end_from, log_slots, AreParts}
use Rattle.segmented_log.specs.Log.{HasSegment, Holds, IsLog}
use Rattle.segmented_log.specs.Settled.{TailIsKept, part_at, AddsSegment}
use Rattle.segmented_log.proofs.NameLemmas.{segment_no_tail, segments_apart, beside_no_segment, beside_no_tail, segment_no_tail_beside}
use Rattle.segmented_log.proofs.HoldLemmas.{firsts, same_segments, other_tail}
use Rattle.segmented_log.proofs.PartLemmas.{next_segment, unsealed, sealed_parts, sealed_slots, emptied_parts, emptied_slots, begin_before}

-- the part of a tail's records that no segment has
pub unsealed_part : (first sealed tail_first from : ℕ) (segments : List Part) (tail : List ℕ) (places : List Place) → sealed ≡ end_from first segments → tail_first ≡ first_of tail
    → from ≡ sealed - tail_first
    → contents tail places ≡ records_of tail → part_at sealed tail (drop from places) ≡ next_segment first segments tail
unsealed_part first sealed tail_first from segments tail places sealed_is first_is from_is records =
    let k : from ≡ end_from first segments - first_of tail = omega (arith, sealed_is, first_is, from_is) in
    let all : map doc (contents tail (drop from places)) ≡ drop from (tail_slots tail) =
    ap (λ (l : List (List ℕ)). map doc l) (sym (drop-map (content tail) from places)) ∙ sym (drop-map doc from (contents tail places)) ∙ ap (λ (l : List (List ℕ)). drop from (map doc l)) records in
    λ i. record { first = sealed_is i; slots = (all ∙ ap (λ (n : ℕ). drop n (tail_slots tail)) k) i }

-- one segment more
module _ (old c : Look) (segments : List Part) (tail : List ℕ) (segment : Part) (held : Holds segments tail old)
    (others : (k : ℕ) → k ≢ segment.first → k < 2 ^ 64 → c (segment_name k) ≡ old (segment_name k))
    (below : AllByRecursion (λ part. part.first < segment.first) segments) (low : segment.first < 2 ^ 64) (has : HasSegment c segment) (is : c tail_name ≡ Some tail) where
  each_more : (parts : List Part) → AllByRecursion (λ part. part.first < segment.first) parts → AllByRecursion (HasSegment old) parts → AllByRecursion (HasSegment c) (parts ++ segment ∷ [])
  each_more [] lower all = (has, tt)
  each_more (p ∷ parts) lower all =
      ((all.0.0, all.0.1, others p.first (λ e. absurd (omega (arith, e, lower.0))) (omega (arith, lower.0, low)) ∙ all.0.2), each_more parts lower.1 all.1)

  known : (k : ℕ) → Contains (firsts segments) k → Contains (firsts (segments ++ segment ∷ [])) k
  known k among = subst (λ (l : List ℕ). Contains l k) (sym (map_push (λ (p : Part). p.first) segments segment)) (Contains-append_left (firsts segments) (segment.first ∷ []) k among)

  itself : (k : ℕ) → k ≡ segment.first → Contains (firsts (segments ++ segment ∷ [])) k
  itself k same =
      subst (λ (n : ℕ). Contains (firsts (segments ++ segment ∷ [])) n) (sym same)
      (subst (λ (l : List ℕ). Contains l segment.first) (sym (map_push (λ (p : Part). p.first) segments segment)) (Contains-push (firsts segments) segment.first))

  pub added_holds : Holds (segments ++ segment ∷ []) tail c
  added_holds = record {
    each = each_more segments below held.each;
    no_others = λ k small. elim (cases_eq k segment.first) [
      | inl same ↦ inr (itself k same)
      | inr differs ↦ ⊎_elim (λ none. inl (others k differs small ∙ none)) (λ among. inr (known k among)) (held.no_others k small)
    ];
    tail_is = is;
  }

-- the segment of the tail's records that no segment had
module _ (first : ℕ) (segments : List Part) (tail : List ℕ) (parts : AreParts first segments tail) (some : 0 < length (unsealed first segments tail)) (high : tail_end tail < 2 ^ 64) where
  low : end_from first segments < 2 ^ 64
  low = parts.fits

  abbrev new : Part
  new = next_segment first segments tail

  abbrev beside : List ℕ
  beside = segment_name new.first ++ part

  pub published_holds : (old c : Look) → Holds segments tail old → ElsewhereOfBoth beside (segment_name new.first) old c → HasSegment c new → Holds (segments ++ new ∷ []) tail c
  published_holds old c held elsewhere has =
      added_holds old c segments tail new held
      (λ k differs small. elsewhere (segment_name k) (beside_no_segment new.first k) (λ same. differs (segments_apart k new.first small low same)))
      (begin_before first segments parts.in_line) low has
      (elsewhere tail_name (beside_no_tail new.first) (λ same. segment_no_tail new.first (sym same)) ∙ held.tail_is)

  pub published_log : (c : Look) → Holds (segments ++ new ∷ []) tail c → IsLog first (log_slots first segments tail) c
  published_log c held = record {
    segments = segments ++ new ∷ [];
    tail = tail;
    parts = sealed_parts first segments tail parts some high;
    slots_are = sym (sealed_slots first segments tail parts some high);
    holds = held;
  }

  same_log : (old c : Look) → Holds segments tail old → ElsewhereOfBoth beside (segment_name new.first) old c → c (segment_name new.first) ≡ old (segment_name new.first)
      → IsLog first (log_slots first segments tail) c
  same_log old c held elsewhere same = record {
    segments = segments;
    tail = tail;
    parts = parts;
    slots_are = refl;
    holds = same_segments old c segments tail tail held (own segments (begin_before first segments parts.in_line)) by_name
        (elsewhere tail_name (beside_no_tail new.first) (λ e. segment_no_tail new.first (sym e)) ∙ held.tail_is);
  }
    where
      by_name : (k : ℕ) → k < 2 ^ 64 → c (segment_name k) ≡ old (segment_name k)
      by_name k small = elim (cases_eq k new.first) [
        | inl e ↦ ap (λ (n : ℕ). c (segment_name n)) e ∙ same ∙ ap (λ (n : ℕ). old (segment_name n)) (sym e)
        | inr differs ↦ elsewhere (segment_name k) (beside_no_segment new.first k) (λ e. differs (segments_apart k new.first small low e))
      ]

      own : (some_parts : List Part) → AllByRecursion (λ p. p.first < new.first) some_parts → AllByRecursion (λ p. c (segment_name p.first) ≡ old (segment_name p.first)) some_parts
      own [] lower = tt
      own (p ∷ some_parts) lower = (by_name p.first (omega (arith, lower.0, low)), own some_parts lower.1)

  -- what a crash leaves of it
  pub adds_log : (before : Look → Type 0) → ((c : Look) → before c → Holds segments tail c) → (c : Look) → AddsSegment before new c → IsLog first (log_slots first segments tail) c
  adds_log before held c adds =
      ⊎_elim (λ same. same_log adds.old c (held adds.old adds.was) adds.elsewhere same)
      (λ has. published_log c (published_holds adds.old c (held adds.old adds.was) adds.elsewhere has)) adds.at_name

  -- and once it is published
  pub added_outcomes : (before after : Look → Type 0) → ((c : Look) → before c → Holds segments tail c) → ComesFrom (ElsewhereOfBoth beside (segment_name new.first)) before after
      → ((c : Look) → after c → HasSegment c new) → (c : Look) → after c → Holds (segments ++ new ∷ []) tail c
  added_outcomes before after held follows has c left =
      let from = follows c left in published_holds from.0 c (held from.0 from.1) from.2 (has c left)

  pub tail_stays : (old_hold new_hold : List ℕ → List ℕ → Type 0) (before after : Look → Type 0) (old_entry new_entry old_trust new_trust : List ℕ → Type 0)
      → TailIsKept old_hold before old_entry old_trust tail
      → FilesElsewhereOfBoth beside (segment_name new.first) old_hold new_hold → ((n : List ℕ) → new_entry n) → (old_trust tail_name → new_trust tail_name)
      → ComesFrom (ElsewhereOfBoth beside (segment_name new.first)) before after
      → TailIsKept new_hold after new_entry new_trust tail
  tail_stays old_hold new_hold before after old_entry new_entry old_trust new_trust kept files entries trusts follows = record {
    file = λ bytes holds. kept.file bytes (files tail_name bytes (beside_no_tail new.first) (λ e. segment_no_tail new.first (sym e)) holds);
    entry = entries tail_name;
    trust = trusts kept.trust;
    outcomes = λ c left.
        let from = follows c left in from.2 tail_name (beside_no_tail new.first) (λ e. segment_no_tail new.first (sym e)) ∙ kept.outcomes from.0 from.1;
  }

-- an empty tail after segments that have all records
module _ (first : ℕ) (segments : List Part) (tail file : List ℕ) (parts : AreParts first segments tail) (all : end_from first segments ≡ tail_end tail)
    (is_tail : IsTail file) (begins : first_of file ≡ tail_end tail) (none : records_of file ≡ []) where
  emptied_log : (c : Look) → Holds segments file c → IsLog first (log_slots first segments tail) c
  emptied_log c held = record {
    segments = segments;
    tail = file;
    parts = emptied_parts first segments tail parts file all is_tail begins none;
    slots_are = sym (emptied_slots first segments tail parts file all none);
    holds = held;
  }

  pub replaced_log : (before : Look → Type 0) → ((c : Look) → before c → Holds segments tail c) → (c : Look) → IsOldOrWhole before (tail_name ++ part) tail_name (Some file) c
      → IsLog first (log_slots first segments tail) c
  replaced_log before held c o =
      let was = held o.old o.was in
      let names = λ (k : ℕ). o.elsewhere (segment_name k) (segment_no_tail_beside k) (segment_no_tail k) in
      ⊎_elim
      (λ same. let kept : IsLog first (log_slots first segments tail) c = record {
        segments = segments;
        tail = tail;
        parts = parts;
        slots_are = refl;
        holds = other_tail segments tail tail o.old c was names (same ∙ was.tail_is);
      } in kept)
      (λ is. emptied_log c (other_tail segments tail file o.old c was names is)) o.at_name

-- the tail is another file
pub replaced_outcomes : (segments : List Part) (tail file : List ℕ) (before after : Look → Type 0) → ((c : Look) → before c → Holds segments tail c)
    → ComesFrom (ElsewhereOfBoth (tail_name ++ part) tail_name) before after
    → ((c : Look) → after c → c tail_name ≡ Some file) → (c : Look) → after c → Holds segments file c
replaced_outcomes segments tail file before after held follows is c left =
    let from = follows c left in
    other_tail segments tail file from.0 c (held from.0 from.1) (λ k. from.2 (segment_name k) (segment_no_tail_beside k) (segment_no_tail k)) (is c left)
