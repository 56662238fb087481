-- A log after its tail's records became a segment.
use Rattle.std.proofs.Common.{◌≡◌, ℕ, ◌+◌, ◌-◌, ◌<◌, ◌^◌, List, [], ◌∷◌, ◌++◌, length, drop, sym, ◌∙◌, ap, subst, arith}
use Rattle.std.proofs.lemmas.List.{length-map}
use Rattle.store_folder.specs.Moments.{ComesFrom}
use Rattle.store_folder.specs.Folder.{Look, ElsewhereOfBoth, FilesElsewhereOfBoth}
use Rattle.store_folder.specs.Publishing.{part}
use Rattle.log_tail.specs.declared.batches.Place.{Place}
use Rattle.log_tail.specs.Place.{content}
use Rattle.log_tail.specs.Tail.{records_of}
use Rattle.segmented_log.specs.Names.{segment_name, tail_name}
use Rattle.segmented_log.specs.Parts.{Part, tail_end, end_from, log_slots, AreParts}
use Rattle.segmented_log.specs.Log.{HasSegment, Holds, IsLog}
use Rattle.segmented_log.specs.Settled.{part_at, AddsSegment, IsOnDisk, IsSettledTail, IsSettledFolder}
use Rattle.segmented_log.proofs.PartLemmas.{next_segment, unsealed, unsealed_size, sealed_end, sealed_parts, sealed_slots}
use Rattle.segmented_log.proofs.SealLemmas.{unsealed_part, adds_log, added_outcomes, tail_stays}

module _ (sealed tail_first next : ℕ) (tail : List ℕ) (places : List Place) (pending : List ℕ)
    (s : IsSettledTail sealed tail_first next tail places pending) (end from : ℕ) (end_is : end ≡ tail_first + length places) (more : sealed < end) (from_is : from ≡ sealed - tail_first) where
  size : length places ≡ length (records_of tail)
  size = omega (arith, ap length s.records, length-map places (content tail))

  pub settled_segment : IsSettledTail end tail_first next tail places pending
  settled_segment = record {
    is_tail = s.is_tail;
    whole = s.whole;
    records = s.records;
    within = s.within;
    first_is = s.first_is;
    low = omega (arith, end_is);
    high = omega (arith, end_is);
    next_is = s.next_is;
    fits = s.fits;
    pending_whole = s.pending_whole;
    small = s.small;
  }

  module _ (first : ℕ) (segments : List Part) (parts : AreParts first segments tail) (sealed_is : sealed ≡ end_from first segments) (unsealed_places : List Place)
      (rest_is : unsealed_places ≡ drop from places) where
    abbrev new : Part
    new = next_segment first segments tail

    pub part_is : part_at sealed tail unsealed_places ≡ new
    part_is =
        ap (λ (l : List Place). part_at sealed tail l) rest_is
        ∙ unsealed_part first sealed tail_first from segments tail places sealed_is s.first_is from_is s.records

    ends : tail_end tail ≡ end
    ends = omega (arith, end_is, s.first_is, size)

    some : 0 < length (unsealed first segments tail)
    some = omega (arith, unsealed_size first segments tail parts, ends, sealed_is, more)

    high : tail_end tail < 2 ^ 64
    high = omega (arith, ends, end_is, s.next_is, s.fits)

    pub segment_log : (before : Look → Type 0) → ((c : Look) → before c → Holds segments tail c) → (c : Look) → AddsSegment before (part_at sealed tail unsealed_places) c
        → IsLog first (log_slots first segments tail) c
    segment_log before held c adds = adds_log first segments tail parts some high before held c (subst (λ (p : Part). AddsSegment before p c) part_is adds)

    pub slots_segment : (p : Part) → p ≡ part_at sealed tail unsealed_places → log_slots first (segments ++ p ∷ []) tail ≡ log_slots first segments tail
    slots_segment p is = ap (λ (q : Part). log_slots first (segments ++ q ∷ []) tail) (is ∙ part_is) ∙ sealed_slots first segments tail parts some high

    pub folder_segment : (p : Part) → p ≡ part_at sealed tail unsealed_places → (old_hold new_hold : List ℕ → List ℕ → Type 0) (before after : Look → Type 0)
        (old_entry new_entry old_trust new_trust : List ℕ → Type 0)
        → IsOnDisk old_hold before old_entry old_trust segments tail → ((c : Look) → after c → HasSegment c (part_at sealed tail unsealed_places))
        → FilesElsewhereOfBoth (segment_name sealed ++ part) (segment_name sealed) old_hold new_hold
        → ((n : List ℕ) → new_entry n) → (old_trust tail_name → new_trust tail_name) → ComesFrom (ElsewhereOfBoth (segment_name sealed ++ part) (segment_name sealed)) before after
        → IsSettledFolder new_hold after new_entry new_trust first end (segments ++ p ∷ []) tail
    folder_segment p is old_hold new_hold before after old_entry new_entry old_trust new_trust disk has files entries trusts follows =
        let follows_new = subst (λ (n : ℕ). ComesFrom (ElsewhereOfBoth (segment_name n ++ part) (segment_name n)) before after) sealed_is follows in
        let files_new = subst (λ (n : ℕ). FilesElsewhereOfBoth (segment_name n ++ part) (segment_name n) old_hold new_hold) sealed_is files in
        let settled : IsSettledFolder new_hold after new_entry new_trust first end (segments ++ new ∷ []) tail = record {
          parts = sealed_parts first segments tail parts some high;
          sealed_is = sym ends ∙ sym (sealed_end first segments tail parts);
          on_disk = record {
            outcomes = added_outcomes first segments tail parts some high before after disk.outcomes follows_new (λ c left. subst (λ (q : Part). HasSegment c q) part_is (has c left));
            tail_kept = tail_stays first segments tail parts some high old_hold new_hold before after old_entry new_entry old_trust new_trust disk.tail_kept files_new entries trusts follows_new;
          };
        } in
        subst (λ (q : Part). IsSettledFolder new_hold after new_entry new_trust first end (segments ++ q ∷ []) tail) (sym (is ∙ part_is)) settled
