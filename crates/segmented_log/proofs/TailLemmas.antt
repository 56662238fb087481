-- A tail with bytes after its own.
use Rattle.std.proofs.Common.{◌≡◌, ◌≢◌, ◌<◌, ◌≤◌, ◌+◌, ◌^◌, ◌⊎◌, inl, inr, ⊎_elim, ℕ, List, [], ◌∷◌, ◌++◌, length, take, map, refl, sym, ◌∙◌, ap, subst, arith, length-append, Some}
use Rattle.std.proofs.lemmas.List.{append-nil, take_all, take-append-le}
use Rattle.std.proofs.lemmas.List.Concat.{flat_map-append}
use Rattle.std.specs.List.{flat_map}
use Rattle.store_folder.specs.Folder.{Look}
use Rattle.store_format.specs.Block.{Slot, doc}
use Rattle.log_tail.specs.Tail.{sum_of, IsWholeRecords, records_in, records_of, records_from, first_of, bodies_of, bodies_after, IsTail, IsWholeTo}
use Rattle.segmented_log.specs.declared.commit.Commit.{Commit}
use Rattle.segmented_log.specs.declared.commit.Commit.TheVariants.{OneSync, TwoSyncs}
use Rattle.store_folder.proofs.NamesLemmas.{decided}
use Rattle.log_tail.specs.Heads.{head_body, headed}
use Rattle.log_tail.proofs.HeadLemmas.{length-headed, headed_records}
use Rattle.log_tail.proofs.Logs.{first_same}
use Rattle.segmented_log.specs.Names.{segment_name, tail_name}
use Rattle.segmented_log.specs.Parts.{Part, log_slots, AreParts}
use Rattle.segmented_log.specs.Log.{Holds, IsLog, KeepsOrAdds, batch_length}
use Rattle.segmented_log.specs.Settled.{GrowsTail, PutsBatch}
use Rattle.segmented_log.proofs.PartLemmas.{more_parts, more_slots}
use Rattle.segmented_log.proofs.NameLemmas.{segment_no_tail, segment_no_tail_beside}
use Rattle.segmented_log.proofs.HoldLemmas.{other_tail}

module _ (tail after : List ℕ) (whole : IsWholeTo (length tail) tail) where
  all_of_it : take (length tail) tail ≡ tail
  all_of_it = take_all (length tail) tail (omega arith)

  pub grown_bodies : bodies_of (tail ++ after) ≡ bodies_of tail ++ bodies_after 0 after
  grown_bodies = ap (λ (l : List ℕ). bodies_of (l ++ after)) (sym all_of_it) ∙ whole.goes_on after

  pub grown_records : records_of (tail ++ after) ≡ records_of tail ++ records_from after
  grown_records = ap (λ (l : List (List ℕ)). flat_map records_in l) grown_bodies ∙ flat_map-append records_in (bodies_of tail) (bodies_after 0 after)

  pub grown_first : first_of (tail ++ after) ≡ first_of tail
  grown_first = first_same tail (tail ++ after) (take-append-le 16 tail after (omega (arith, whole.header)))

  pub grown_tail : IsTail tail → IsTail (tail ++ after)
  grown_tail is = record {
    named = take-append-le 8 tail after (omega (arith, is.long)) ∙ is.named;
    long = omega (arith, is.long, length-append tail after);
  }

same_lists : (a b : List (List ℕ)) → (a ≡ b) ⊎ (a ≢ b)
same_lists [] [] = inl refl
same_lists [] (b ∷ more) = inr (λ e. cc e)
same_lists (a ∷ rest) [] = inr (λ e. cc e)
same_lists (a ∷ rest) (b ∷ more) = elim (decided a b) [
  | inl same ↦ elim (same_lists rest more) [
    | inl all ↦ inl (λ i. same i ∷ all i)
    | inr differ ↦ inr (λ e. let one : rest ≡ more = cc e in differ one)
  ]
  | inr differs ↦ inr (λ e. let one : a ≡ b = cc e in differs one)
]

-- the records that stand after a tail where a batch of these was written
cases_of : (added records : List (List ℕ)) → (records ≡ []) ⊎ ((records ≡ added) ⊎ ((records ≢ []) × (records ≢ added)))
cases_of added [] = inl refl
cases_of added (one ∷ more) = elim (same_lists (one ∷ more) added) [
  | inl same ↦ inr (inl same)
  | inr differ ↦ inr (inr ((λ e. cc e), differ))
]

module _ (first : ℕ) (segments : List Part) (tail body : List ℕ) (parts : AreParts first segments tail) (whole : IsWholeTo (length tail) tail) where
  grown_log : (c old : Look) (after : List ℕ) → Holds segments tail old → ((k : ℕ) → c (segment_name k) ≡ old (segment_name k))
      → c tail_name ≡ Some (tail ++ after)
      → IsLog first (log_slots first segments tail ++ map doc (records_from after)) c
  grown_log c old after held names is = record {
    segments = segments;
    tail = tail ++ after;
    parts = more_parts first segments tail parts (tail ++ after) (records_from after) (grown_tail tail after whole parts.is_tail) (grown_first tail after whole) (grown_records tail after whole);
    slots_are = sym (more_slots first segments tail parts (tail ++ after) (records_from after) (grown_first tail after whole) (grown_records tail after whole));
    holds = other_tail segments tail (tail ++ after) old c held names is;
  }

  keeps_or_grows : (n : ℕ) → n ≡ batch_length (records_in body) → (before : Look → Type 0) → ((c : Look) → before c → Holds segments tail c) → (c : Look)
      → GrowsTail before tail n c → KeepsOrAdds OneSync first (log_slots first segments tail) (records_in body) c
  keeps_or_grows n size before held c grown =
      let log = grown_log c grown.old grown.after (held grown.old grown.was) (λ k. grown.elsewhere (segment_name k) (segment_no_tail k)) grown.tail_is in
      let slots = log_slots first segments tail in
      let after = grown.after in
      elim (cases_of (records_in body) (records_from after)) [
        | inl none ↦
            let same : slots ++ map doc (records_from after) ≡ slots =
            ap (λ (l : List (List ℕ)). slots ++ map doc l) none ∙ append-nil slots in
            inl (subst (λ (l : List Slot). IsLog first l c) same log)
        | inr (inl one) ↦
            let more : slots ++ map doc (records_from after) ≡ slots ++ map doc (records_in body) = ap (λ (l : List (List ℕ)). slots ++ map doc l) one in
            inr (inl (subst (λ (l : List Slot). IsLog first l c) more log))
        | inr (inr others) ↦
            inr (inr (record {
              one_sync = refl;
              bytes = after;
              forged = record { some = others.0; other = others.1; short = subst (λ (k : ℕ). length after ≤ k) size grown.short };
              log = log;
            }))
      ]

  -- a crash leaves the log as it was, or with the whole batch; or, with one sync, forged ones
  pub keeps_or_adds : (commit : Commit) (number place : ℕ) → IsWholeRecords body → 8 + length body < 2 ^ 32 → sum_of body < 2 ^ 64
      → sum_of (head_body number place (length body)) < 2 ^ 64 → (before : Look → Type 0) → ((c : Look) → before c → Holds segments tail c) → (c : Look)
      → PutsBatch commit before tail (headed number place body) c → KeepsOrAdds commit first (log_slots first segments tail) (records_in body) c
  keeps_or_adds OneSync number place records small fits head_fits before held c grown =
      keeps_or_grows (length (headed number place body)) (length-headed number place body ∙ ap (λ (l : List ℕ). 50 + length l) records.encoded) before held c grown
  keeps_or_adds TwoSyncs number place records small fits head_fits before held c o =
      let was = held o.old o.was in
      let names = λ (k : ℕ). o.elsewhere (segment_name k) (segment_no_tail_beside k) (segment_no_tail k) in
      let slots = log_slots first segments tail in
      let batch = headed number place body in
      let more : slots ++ map doc (records_from batch) ≡ slots ++ map doc (records_in body) =
      ap (λ (l : List (List ℕ)). slots ++ map doc l) (headed_records number place body small fits head_fits) in
      ⊎_elim
      (λ same. let kept : IsLog first slots c = record {
        segments = segments;
        tail = tail;
        parts = parts;
        slots_are = refl;
        holds = other_tail segments tail tail o.old c was names (same ∙ was.tail_is);
      } in inl kept)
      (λ is. inr (inl (subst (λ (l : List Slot). IsLog first l c) more (grown_log c o.old batch was names is)))) o.at_name
