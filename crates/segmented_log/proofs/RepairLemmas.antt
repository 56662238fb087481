-- Bytes that are cut off a tail, and kept in a file that is none of the log's.
use Rattle.std.proofs.Common.{◌≡◌, ◌≢◌, inl, inr, ⊎_elim, ℕ, List, ◌++◌, true, false, refl, sym, ◌∙◌, ap}
use Rattle.std.specs.List.{Contains}
use Rattle.std.proofs.lemmas.Cmp.{nat_list_eq_equiv}
use Rattle.std.proofs.lemmas.Map.Views.{list_any-from_Contains}
use Rattle.store_folder.specs.Folder.{Look, ElsewhereOfBoth}
use Rattle.store_folder.specs.Publishing.{part}
use Rattle.segmented_log.specs.Names.{cut_name, is_among, segment_name, tail_name}
use Rattle.segmented_log.specs.Log.{KeepsLog}
use Rattle.segmented_log.specs.Opening.{IsOfLog, IsAsBefore, IsOldOrSeen, IsSyncedButTail}
use Rattle.segmented_log.proofs.NameLemmas.{log_no_cut}
use Rattle.segmented_log.proofs.OpeningLemmas.{log_same, blank_same}

apart_from_cut : (n : ℕ) (name : List ℕ) → IsOfLog name → (name ≢ cut_name n) × (name ≢ cut_name n ++ part)
apart_from_cut n name = ⊎_elim (λ is. log_no_cut 0 n name (inl is)) (λ of. log_no_cut of.0 n name (inr of.2))

-- a change of such a file and the one beside it leaves those of the log
pub log_elsewhere : (name beside : List ℕ) (old new : Look) → (n : ℕ) × (name ≡ cut_name n) → beside ≡ name ++ part → ElsewhereOfBoth beside name old new
    → (m : List ℕ) → IsOfLog m → new m ≡ old m
log_elsewhere name beside old new cut is same m of =
    let apart = apart_from_cut cut.0 m of in
    same m (λ e. apart.1 (e ∙ is ∙ ap (λ (l : List ℕ). l ++ part) cut.1)) (λ e. apart.0 (e ∙ cut.1))

pub not_among : (names : List (List ℕ)) (n : List ℕ) → is_among names n ≡ false → Contains names n → ⊥
not_among names n none has = let both : true ≡ false = sym (list_any-from_Contains nat_list_eq_equiv n names has) ∙ none in cc both

-- ---- a folder whose files of the log are those of another

module _ (seen now : Look) (same : (m : List ℕ) → IsOfLog m → now m ≡ seen m) where
  pub keeps_seen : (c : Look) → KeepsLog now c → KeepsLog seen c
  keeps_seen c keeps = record { same = λ n all log. keeps.same n all (log_same n all seen now same log); begun = λ blank. keeps.begun (blank_same seen now same blank) }

  module _ (before after : Look → Type 0) (from : (c : Look) → after c → IsAsBefore before c) where
    old_before : (c : Look) → IsAsBefore after c → IsAsBefore before c
    old_before c was = let d = from was.0 was.1 in (d.0, d.1, λ n of. was.2 n of ∙ d.2 n of)

    pub old_or_seen : (c : Look) → IsOldOrSeen after now c → IsOldOrSeen before seen c
    old_or_seen c = ⊎_elim (λ old. inl (old_before c old)) (λ keeps. inr (keeps_seen c keeps))

    pub still_synced : IsSyncedButTail seen before → IsSyncedButTail now after
    still_synced synced = record {
      segments = λ c left k low.
          let d = from c left in
          let of : IsOfLog (segment_name k) = inr (k, low, refl) in
          d.2 (segment_name k) of ∙ synced.segments d.0 d.1 k low ∙ sym (same (segment_name k) of);
      no_tail = λ none c left.
          let d = from c left in
          let of : IsOfLog tail_name = inl refl in
          d.2 tail_name of ∙ synced.no_tail (sym (same tail_name of) ∙ none) d.0 d.1;
    }
