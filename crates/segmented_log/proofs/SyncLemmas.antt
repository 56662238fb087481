-- A log after a batch was put after those of its tail.
use Rattle.std.proofs.Common.{◌≡◌, ℕ, ◌+◌, ◌<◌, ◌≤◌, ◌^◌, List, [], ◌∷◌, ◌++◌, length, take, drop, map, refl, sym, ◌∙◌, ap, subst, arith, length-append, append_assoc}
use Rattle.std.specs.Prelude.{All, Bool, true, ◌==◌, Result, Ok, Err, OnOk}
use Rattle.std.proofs.lemmas.Bool.Decides.{nat_tests}
use Rattle.std.specs.Bool.{OnFalse}
use Rattle.std.proofs.lemmas.Bool.{OnFalse_from}
use Rattle.std.proofs.Math.Seq.{take-append_seam, drop-append_seam}
use Rattle.std.proofs.lemmas.List.{length-map, nil_from_length, take_at, take_all}
use Rattle.store_folder.specs.Moments.{ComesFrom, LeavesOnly}
use Rattle.store_folder.specs.Folder.{Look, ElsewhereOfBoth}
use Rattle.store_folder.specs.Publishing.{part}
use Rattle.store_folder.proofs.Steps.{started}
use Rattle.store_format.specs.Block.{doc}
use Rattle.log_tail.specs.declared.batches.Place.{Place}
use Rattle.log_tail.specs.Place.{content, contents, EndsBy, AddsRecords}
use Rattle.log_tail.specs.Tail.{sum_of, summed, records_in, records_of, first_of, IsTail, IsWholeTo}
use Rattle.log_tail.specs.Heads.{head_body, headed}
use Rattle.log_tail.proofs.Bodies.{length-summed}
use Rattle.log_tail.proofs.HeadLemmas.{length-head, length-headed, head_whole, head_records}
use Rattle.log_tail.proofs.Scans.{ends_later}
use Rattle.log_tail.proofs.Tails.{written_bodies, written_whole}
use Rattle.log_tail.proofs.Logs.{records_more, contents_same, contents_more, places_more, nothing_whole}
use Rattle.segmented_log.specs.Names.{tail_name}
use Rattle.segmented_log.specs.Parts.{Part, tail_end, end_from, log_slots, AreParts}
use Rattle.segmented_log.specs.Log.{IsLog}
use Rattle.segmented_log.specs.Settled.{TailIsKept, IsSettledTail, IsSettledFolder}
use Rattle.std.proofs.lemmas.List.Elements.{All-nil}
use Rattle.segmented_log.proofs.PartLemmas.{more_parts, more_slots, emptied_parts}
use Rattle.segmented_log.proofs.SealLemmas.{replaced_outcomes}
use Rattle.segmented_log.proofs.TailLemmas.{grown_first, grown_tail}
use Rattle.segmented_log.proofs.ReadLemmas.{slots_end}

-- a list that was put together, before and after the seam
pub seam_front : (whole front back : List ℕ) (n : ℕ) → whole ≡ front ++ back → n ≡ length front → take n whole ≡ front
seam_front whole front back n is at = ap (λ (k : ℕ). take k whole) at ∙ ap (λ (l : List ℕ). take (length front) l) is ∙ take-append_seam front back

pub seam_back : (whole front back : List ℕ) (n : ℕ) → whole ≡ front ++ back → n ≡ length front → drop n whole ≡ back
seam_back whole front back n is at = ap (λ (k : ℕ). drop k whole) at ∙ ap (λ (l : List ℕ). drop (length front) l) is ∙ drop-append_seam front back

pub new_size : (number place : ℕ) (tail body new : List ℕ) → new ≡ tail ++ headed number place body → length new ≡ length tail + 50 + length body
new_size number place tail body new new_is = omega (arith, ap length new_is, length-append tail (headed number place body), length-headed number place body)

module _ (sealed tail_first next : ℕ) (tail body new : List ℕ) (places : List Place) (s : IsSettledTail sealed tail_first next tail places body) (fits : sum_of body < 2 ^ 64)
    (number place : ℕ) (head_fits : sum_of (head_body number place (length body)) < 2 ^ 64) (new_is : new ≡ tail ++ headed number place body) where
  -- the tail with the head of the batch
  abbrev headed_tail : List ℕ
  headed_tail = tail ++ 1 ∷ summed (head_body number place (length body))

  headed_whole : IsWholeTo (length headed_tail) headed_tail
  headed_whole = head_whole tail number place (length body) s.whole head_fits

  headed_same : records_of headed_tail ≡ records_of tail
  headed_same = head_records tail number place (length body) s.whole head_fits

  headed_size : length headed_tail ≡ length tail + 37
  headed_size =
      let head = head_body number place (length body) in
      omega (arith, length-append tail (1 ∷ summed head), length-summed head, length-head number place (length body))

  batch_is : new ≡ headed_tail ++ 1 ∷ summed body
  batch_is = new_is ∙ sym (append_assoc tail (1 ∷ summed (head_body number place (length body))) (1 ∷ summed body))

  headed_contents : contents headed_tail places ≡ records_of headed_tail
  headed_contents =
      contents_same (length tail) headed_tail tail places
      (take_at tail (1 ∷ summed (head_body number place (length body))) (length tail) refl ∙ sym (take_all (length tail) tail (omega arith))) s.within
      ∙ s.records
      ∙ sym headed_same

  pub batch_records : records_of new ≡ records_of tail ++ records_in body
  batch_records = records_more headed_tail new body (written_bodies headed_tail body headed_whole s.small fits new batch_is) ∙ ap (λ (l : List (List ℕ)). l ++ records_in body) headed_same

  pub batch_first : first_of new ≡ first_of tail
  batch_first = ap first_of new_is ∙ grown_first tail (headed number place body) s.whole

  pub settled_batch : (later : List Place) (pending : List ℕ) (end : ℕ) → AddsRecords body (length tail + 50) places later → All (EndsBy end) later → end ≤ length new → pending ≡ []
      → IsSettledTail sealed tail_first next new later pending
  settled_batch later pending end adds within le none =
      let within_head = ends_later (length tail) (length headed_tail) places (omega (arith, headed_size)) s.within in
      let adds_there : AddsRecords body (length headed_tail + 13) places later = subst (λ (n : ℕ). AddsRecords body n places later) (omega (arith, headed_size)) adds in
      let size = places_more headed_tail body new batch_is places later headed_contents within_head adds_there in
      let empty = nothing_whole pending none in
      record {
        is_tail = subst (λ (l : List ℕ). IsTail l) (sym new_is) (grown_tail tail (headed number place body) s.whole s.is_tail);
        whole = written_whole headed_tail body headed_whole s.small fits new batch_is;
        records = contents_more headed_tail body new batch_is places later headed_contents within_head adds_there
            (batch_records ∙ ap (λ (l : List (List ℕ)). l ++ records_in body) (sym headed_same));
        within = ends_later end (length new) later le within;
        first_is = s.first_is ∙ sym batch_first;
        low = s.low;
        high = omega (arith, s.high, size);
        next_is = omega (arith, s.next_is, size, ap length empty.1);
        fits = s.fits;
        pending_whole = empty.0;
        small = omega (arith, ap length none);
      }

  -- the folder's segments stay
  pub folder_batch : (first : ℕ) (segments : List Part) (old_hold new_hold : List ℕ → List ℕ → Type 0) (before after : Look → Type 0) (old_entry new_entry old_trust new_trust : List ℕ → Type 0)
      → IsSettledFolder old_hold before old_entry old_trust first sealed segments tail → TailIsKept new_hold after new_entry new_trust (tail ++ headed number place body)
      → ComesFrom (ElsewhereOfBoth (tail_name ++ part) tail_name) before after
      → IsSettledFolder new_hold after new_entry new_trust first sealed segments new
  folder_batch first segments old_hold new_hold before after old_entry new_entry old_trust new_trust f kept follows =
      let kept_new = subst (λ (l : List ℕ). TailIsKept new_hold after new_entry new_trust l) (sym new_is) kept in
      record {
        parts = more_parts first segments tail f.parts new (records_in body)
            (subst (λ (l : List ℕ). IsTail l) (sym new_is) (grown_tail tail (headed number place body) s.whole s.is_tail)) batch_first batch_records;
        sealed_is = f.sealed_is;
        on_disk = record {
          outcomes = replaced_outcomes segments tail new before after f.on_disk.outcomes follows kept_new.outcomes;
          tail_kept = kept_new;
        };
      }

  pub slots_batch : (first : ℕ) (segments : List Part) → AreParts first segments tail → log_slots first segments new ≡ log_slots first segments tail ++ map doc (records_in body)
  slots_batch first segments parts = more_slots first segments tail parts new (records_in body) batch_first batch_records

-- the log that is on the disk
pub log_on_disk : (may_hold : List ℕ → List ℕ → Type 0) (may_leave : Look → Type 0) (entry_kept trusted : List ℕ → Type 0) (first sealed : ℕ) (segments : List Part) (tail : List ℕ)
    → IsSettledFolder may_hold may_leave entry_kept trusted first sealed segments tail → (c : Look) → may_leave c → IsLog first (log_slots first segments tail) c
log_on_disk may_hold may_leave entry_kept trusted first sealed segments tail f c left = record {
  segments = segments;
  tail = tail;
  parts = f.parts;
  slots_are = refl;
  holds = f.on_disk.outcomes c left;
}

-- while no call changes the folder, each moment has the same log
pub log_stays : {D : Type 0} (moment : D → ℕ) (left_since : D → ℕ → Look → Type 0) (may_hold : List ℕ → List ℕ → Type 0) (may_leave : Look → Type 0) (entry_kept trusted : List ℕ → Type 0)
    (first sealed : ℕ)
    (segments : List Part)
    (tail : List ℕ) → IsSettledFolder may_hold may_leave entry_kept trusted first sealed segments tail → (folder : D) → ((c : Look) → left_since folder (moment folder) c → may_leave c)
    → LeavesOnly moment left_since folder folder (IsLog first (log_slots first segments tail))
log_stays moment left_since may_hold may_leave entry_kept trusted first sealed segments tail f folder only_now =
    started moment left_since folder _ (λ c left. log_on_disk may_hold may_leave entry_kept trusted first sealed segments tail f c (only_now c left))

-- the numbers of the records that are appended and synced next
module _ (sealed tail_first next : ℕ) (tail : List ℕ) (places : List Place) (pending : List ℕ) (s : IsSettledTail sealed tail_first next tail places pending) (first : ℕ) (segments : List Part)
    (parts : AreParts first segments tail) where
  pub tail_number : tail_first + length places ≡ first + length (log_slots first segments tail)
  tail_number = omega (arith, s.first_is, slots_end first segments tail parts, ap length s.records, length-map places (content tail))

  pub next_number : next ≡ first + length (log_slots first segments tail) + length (records_in pending)
  next_number = omega (arith, s.next_is, tail_number)

-- an empty tail after segments that have all records
module _ (sealed tail_first next : ℕ) (tail : List ℕ) (places : List Place) (pending : List ℕ) (s : IsSettledTail sealed tail_first next tail places pending) (file : List ℕ) (end : ℕ)
    (end_is : end ≡ tail_first + length places) (sealed_is : sealed ≡ end)
    (is_tail : IsTail file) (begins : first_of file ≡ end) (none : records_of file ≡ []) (whole : IsWholeTo (length file) file) where
  places_size : length places ≡ length (records_of tail)
  places_size = omega (arith, ap length s.records, length-map places (content tail))

  pub begins_there : first_of file ≡ tail_end tail
  begins_there = omega (arith, begins, end_is, s.first_is, places_size)

  pub all_sealed : (first : ℕ) (segments : List Part) → sealed ≡ end_from first segments → end_from first segments ≡ tail_end tail
  all_sealed first segments is = omega (arith, is, sealed_is, end_is, s.first_is, places_size)

  pub settled_empty : (cleared : List Place) → cleared ≡ [] → IsSettledTail sealed end next file cleared pending
  settled_empty cleared empty = record {
    is_tail = is_tail;
    whole = whole;
    records = ap (λ (l : List Place). contents file l) empty ∙ sym none;
    within = subst (λ (l : List Place). All (EndsBy (length file)) l) (sym empty) (All-nil (EndsBy (length file)));
    first_is = sym begins;
    low = omega (arith, sealed_is);
    high = omega (arith, sealed_is);
    next_is = omega (arith, s.next_is, end_is, ap length empty);
    fits = s.fits;
    pending_whole = s.pending_whole;
    small = s.small;
  }

  pub folder_empty : (first : ℕ) (segments : List Part) (old_hold new_hold : List ℕ → List ℕ → Type 0) (before after : Look → Type 0) (old_entry new_entry old_trust new_trust : List ℕ → Type 0)
      → IsSettledFolder old_hold before old_entry old_trust first sealed segments tail → TailIsKept new_hold after new_entry new_trust file
      → ComesFrom (ElsewhereOfBoth (tail_name ++ part) tail_name) before after
      → IsSettledFolder new_hold after new_entry new_trust first sealed segments file
  folder_empty first segments old_hold new_hold before after old_entry new_entry old_trust new_trust f kept follows = record {
    parts = emptied_parts first segments tail f.parts file (all_sealed first segments f.sealed_is) is_tail begins_there none;
    sealed_is = f.sealed_is;
    on_disk = record { outcomes = replaced_outcomes segments tail file before after f.on_disk.outcomes follows kept.outcomes; tail_kept = kept };
  }

-- two facts of a log that works
pub both_on_false : (b : Bool) (A B : Type 0) → A → B → OnFalse b (A × B)
both_on_false b A B one two = OnFalse_from b (A × B) (λ works. (one, two))

-- where the tail ends
pub tail_is_there : (sealed tail_first next : ℕ) (tail : List ℕ) (places : List Place) (pending : List ℕ) → IsSettledTail sealed tail_first next tail places pending
    → tail_end tail ≡ tail_first + length places
tail_is_there sealed tail_first next tail places pending s = omega (arith, s.first_is, ap length s.records, length-map places (content tail))

pub always_ok : {T E P : Type 0} (r : Result T E) → P → OnOk r P
always_ok (Ok x) p = p
always_ok (Err e) p = tt

none_is : (n : ℕ) → (n == 0) ≡ true → n ≡ 0
none_is n is = grind (arith, nat_tests)

-- a body of no bytes has no records
pub nothing_pending : (bytes : List ℕ) (len : ℕ) (empty : Bool) → empty ≡ (len == 0) → empty ≡ true → length bytes ≡ len → records_in bytes ≡ []
nothing_pending bytes len empty says is size = ap records_in (nil_from_length bytes (size ∙ none_is len (sym says ∙ is)))
