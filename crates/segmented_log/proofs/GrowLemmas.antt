-- What a crash leaves of a tail while bytes are put after its own.
use Rattle.std.proofs.Common.{◌≡◌, inl, inr, ℕ, List, [], ◌++◌, Option, Some, refl, sym, ◌∙◌, ap, arith}
use Rattle.std.specs.Prelude.{unwrap_or}
use Rattle.std.proofs.lemmas.List.{append-nil}
use Rattle.store_folder.specs.Moments.{ComesFrom, NoMore, Elapses, LeavesOnly}
use Rattle.store_folder.specs.Folder.{Look, Elsewhere, Extends, Written, Keeps}
use Rattle.store_folder.proofs.Steps.{started, goes_on, written_elsewhere}
use Rattle.segmented_log.specs.Names.{tail_name}
use Rattle.segmented_log.specs.Settled.{TailIsKept, GrowsTail}
use Rattle.segmented_log.proofs.OpeningLemmas.{some_is}

module _ (may_hold : List ℕ → List ℕ → Type 0) (may_leave : Look → Type 0) (entry_kept trusted : List ℕ → Type 0) (tail : List ℕ) (kept : TailIsKept may_hold may_leave entry_kept trusted tail) where
  -- nothing after it yet
  pub grows_none : (n : ℕ) (c : Look) → may_leave c → GrowsTail may_leave tail n c
  grows_none n c was = record {
    old = c;
    was = was;
    elsewhere = λ m ne. refl;
    after = [];
    short = omega arith;
    tail_is = kept.outcomes c was ∙ ap (λ (l : List ℕ). Some l) (sym (append-nil tail));
  }

  -- bytes that a crash may tear
  pub grows_torn : (n : ℕ) (held : List ℕ → Type 0) (after : Look → Type 0) → Extends n (may_hold tail_name) held → ComesFrom (Written tail_name held) may_leave after → (c : Look) → after c
      → GrowsTail may_leave tail n c
  grows_torn n held after extends follows c left =
      let from = follows c left in
      elim from.2.at_name [
        | inl same ↦ record {
          old = from.0;
          was = from.1;
          elsewhere = from.2.elsewhere;
          after = [];
          short = omega arith;
          tail_is = same ∙ kept.outcomes from.0 from.1 ∙ ap (λ (l : List ℕ). Some l) (sym (append-nil tail));
        }
        | inr file ↦
            let parts = extends file.0 file.1 in
            let whole : file.0 ≡ tail ++ parts.1 = parts.4 ∙ ap (λ (l : List ℕ). l ++ parts.1) (kept.file parts.0 parts.2) in
            record {
              old = from.0;
              was = from.1;
              elsewhere = from.2.elsewhere;
              after = parts.1;
              short = parts.3;
              tail_is = file.2 ∙ ap (λ (l : List ℕ). Some l) whole;
            }
      ]

  -- bytes that were synced
  pub grown_kept : (seen seen_mid : Look) (batch : List ℕ) (mid_entry new_entry new_trust : List ℕ → Type 0) (new_hold : List ℕ → List ℕ → Type 0) (new_leave : Look → Type 0)
      → seen tail_name ≡ Some tail → seen_mid tail_name ≡ Some (unwrap_or (seen tail_name) [] ++ batch)
      → ((n : List ℕ) → entry_kept n → mid_entry n) → ((n : List ℕ) → mid_entry n → new_entry n)
      → ((bytes : List ℕ) → new_hold tail_name bytes → seen_mid tail_name ≡ Some bytes) → (mid_entry tail_name → Keeps tail_name (seen_mid tail_name) new_leave)
      → new_trust tail_name
      → TailIsKept new_hold new_leave new_entry new_trust (tail ++ batch)
  grown_kept seen seen_mid batch mid_entry new_entry new_trust new_hold new_leave seen_is appended first second durable keeps trusts =
      let is : seen_mid tail_name ≡ Some (tail ++ batch) = appended ∙ ap (λ (o : Option (List ℕ)). Some (unwrap_or o [] ++ batch)) seen_is in
      record {
        file = λ bytes held. some_is bytes (tail ++ batch) (sym (durable bytes held) ∙ is);
        entry = second tail_name (first tail_name kept.entry);
        trust = trusts;
        outcomes = λ c left. keeps (first tail_name kept.entry) c left ∙ is;
      }

-- the run of the two calls
module _ {F : Type 0} (may_leave : F → Look → Type 0) (moment : F → ℕ) (left_since : F → ℕ → Look → Type 0) (may_hold : List ℕ → List ℕ → Type 0) (entry_kept trusted : List ℕ → Type 0) (tail : List ℕ)
    (old mid : F) (only : (c : Look) → left_since old (moment old) c → may_leave old c) (kept : TailIsKept may_hold (may_leave old) entry_kept trusted tail)
    (n : ℕ) (held : List ℕ → Type 0) (extends : Extends n (may_hold tail_name) held) (follows : ComesFrom (Written tail_name held) (may_leave old) (may_leave mid))
    (time : Elapses (moment old) (moment mid) (left_since old) (left_since mid) (may_leave mid)) where
  pub run_appended : LeavesOnly moment left_since old mid (GrowsTail (may_leave old) tail n)
  run_appended =
      goes_on moment left_since old old mid (GrowsTail (may_leave old) tail n) (may_leave mid)
      (started moment left_since old (GrowsTail (may_leave old) tail n) (λ c left. grows_none may_hold (may_leave old) entry_kept trusted tail kept n c (only c left)))
      time (grows_torn may_hold (may_leave old) entry_kept trusted tail kept n held (may_leave mid) extends follows)

  pub run_synced : (new : F) → NoMore (may_leave mid) (may_leave new) → Elapses (moment mid) (moment new) (left_since mid) (left_since new) (may_leave new)
      → LeavesOnly moment left_since old new (GrowsTail (may_leave old) tail n)
  run_synced new no_more time' =
      goes_on moment left_since old mid new (GrowsTail (may_leave old) tail n) (may_leave new) run_appended time'
      (λ c left. grows_torn may_hold (may_leave old) entry_kept trusted tail kept n held (may_leave mid) extends follows c (no_more c left))

  pub follows_synced : (new : F) → NoMore (may_leave mid) (may_leave new) → ComesFrom (Elsewhere tail_name) (may_leave old) (may_leave new)
  follows_synced new no_more c left = written_elsewhere tail_name held (may_leave old) (may_leave mid) follows c (no_more c left)
