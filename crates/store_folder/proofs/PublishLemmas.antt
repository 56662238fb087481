-- What a crash leaves once the calls of a publication were made.
use Rattle.std.proofs.Common.{◌≡◌, ◌≢◌, inl, inr, ℕ, List, [], ◌∷◌, ◌++◌, Bool, true, false, Option, Some, unwrap_or, refl, sym, ap, ◌∙◌}
use Rattle.std.specs.Prelude.{IsTrue, Result, Ok, Err, OnOk, is_ok}
use Rattle.store_base.specs.ReadingLemmas.{some_is}
use Rattle.store_folder.specs.Moments.{LeavesOnly}
use Rattle.store_folder.specs.Folder.{Look, Keeps}
use Rattle.store_folder.specs.Publishing.{IsOldOrWhole}
use Rattle.store_folder.specs.Calls.{Kind, Does, Carried, publishing, replacing, creates, appends, syncs, renames, syncs_folder}
use Rattle.store_folder.proofs.Steps.{started, goes_on, old_stays, renamed, leads_to_whole, written_elsewhere}
use Rattle.store_folder.specs.Beside.{Standing, standing, TouchesOnly}
use Rattle.store_folder.proofs.Runs.{old_run, named}
use Rattle.store_folder.proofs.BesideLemmas.{touched, touched_more}
use Rattle.store_folder.proofs.CallsLemmas.{first_call, last_call}

never : {A : Type 0} (ok : Bool) → ok ≡ false → IsTrue ok → A
never ok failed worked = let none : ⊥ = cc in absurd none

module _ {F : Type 0} (k : Kind F) (beside name : List ℕ) where
  -- the file beside is given the name
  module _ (old : F) (ok : Bool) (new : F) (trusted : k.trusted old beside) (made : Carried k (publishing beside name) ok old new) where
    abbrev P : Look → Type 0
    P = IsOldOrWhole (k.may_leave old) beside name (k.seen old beside)

    pub publish_run : ((c : Look) → k.left_since old (k.moment old) c → k.may_leave old c) → LeavesOnly k.moment k.left_since old new P
    publish_run only = elim (first_call k (syncs beside) (renames beside name ∷ syncs_folder ∷ []) ok old new made) [
      | inl failed ↦ synced new false failed.1
      | inr one ↦ elim (first_call k (renames beside name) (syncs_folder ∷ []) ok one.0 new one.2) [
        | inl failed ↦ goes_on k.moment k.left_since old one.0 new P (k.may_leave new) (synced one.0 true one.1) failed.1.time (second one.0 new false one.1 failed.1)
        | inr two ↦
            let last = last_call k syncs_folder ok two.0 new two.2 in
            goes_on k.moment k.left_since old two.0 new P (k.may_leave new)
            (goes_on k.moment k.left_since old one.0 two.0 P (k.may_leave two.0) (synced one.0 true one.1) two.1.time (second one.0 two.0 true one.1 two.1))
            last.time (λ l now. second one.0 two.0 true one.1 two.1 l (last.crash l now))
      ]
    ]
      where
        synced : (mid : F) (went : Bool) → Does k (syncs beside) went old mid → LeavesOnly k.moment k.left_since old mid P
        synced mid went does =
            goes_on k.moment k.left_since old old mid P (k.may_leave mid)
            (started k.moment k.left_since old P (λ l left. old_stays (k.may_leave old) beside name (k.seen old beside) l (only l left))) does.time
            (λ l now. old_stays (k.may_leave old) beside name (k.seen old beside) l (does.crash l now))

        second : (mid after : F) (went : Bool) → Does k (syncs beside) true old mid → Does k (renames beside name) went mid after → (l : Look) → k.may_leave after l → P l
        second mid after went one two = renamed (k.may_leave old) beside name (k.seen old beside) (k.may_leave mid) (k.may_leave after) (k.may_hold mid beside) one.crash two.crash
            (one.durable refl trusted)

    pub publish_kept : IsTrue ok → Keeps name (k.seen old beside) (k.may_leave new)
    publish_kept worked = elim (first_call k (syncs beside) (renames beside name ∷ syncs_folder ∷ []) ok old new made) [
      | inl failed ↦ never ok failed.0 worked
      | inr one ↦ elim (first_call k (renames beside name) (syncs_folder ∷ []) ok one.0 new one.2) [
        | inl failed ↦ never ok failed.0 worked
        | inr two ↦ λ l left.
            let last = last_call k syncs_folder ok two.0 new two.2 in
            leads_to_whole (k.seen two.0 name) (k.seen old beside) (l name) (k.may_hold two.0 name) (two.1.renamed refl ∙ one.1.seen refl)
            (λ bytes holds. one.1.durable refl trusted bytes (two.1.file refl bytes holds)) (last.durable worked l left name)
      ]
    ]

    publish_seen : IsTrue ok → k.seen new name ≡ k.seen old beside
    publish_seen worked = elim (first_call k (syncs beside) (renames beside name ∷ syncs_folder ∷ []) ok old new made) [
      | inl failed ↦ never ok failed.0 worked
      | inr one ↦ elim (first_call k (renames beside name) (syncs_folder ∷ []) ok one.0 new one.2) [
        | inl failed ↦ never ok failed.0 worked
        | inr two ↦ (last_call k syncs_folder ok two.0 new two.2).seen name ∙ two.1.renamed refl ∙ one.1.seen refl
      ]
    ]

    pub publish_file : IsTrue ok → (bytes : List ℕ) → k.may_hold new name bytes → k.seen old beside ≡ Some bytes
    publish_file worked = elim (first_call k (syncs beside) (renames beside name ∷ syncs_folder ∷ []) ok old new made) [
      | inl failed ↦ never ok failed.0 worked
      | inr one ↦ elim (first_call k (renames beside name) (syncs_folder ∷ []) ok one.0 new one.2) [
        | inl failed ↦ never ok failed.0 worked
        | inr two ↦ λ bytes holds. one.1.durable refl trusted bytes (two.1.file refl bytes ((last_call k syncs_folder ok two.0 new two.2).files name bytes holds))
      ]
    ]

  -- a file of these bytes is made beside the name, and given it
  module _ (bytes : List ℕ) (old : F) (ok : Bool) (new : F) (made : Carried k (replacing beside name bytes) ok old new) where
    written : (mid after : F) → Does k (creates beside) true old mid → Does k (appends beside bytes) true mid after → k.seen after beside ≡ Some bytes
    written mid after one two = two.appended refl ∙ ap (λ (o : Option (List ℕ)). Some (unwrap_or o [] ++ bytes)) (one.created refl)

    -- it is whole before it is given the name
    whole : IsTrue ok → (mid : F) × (k.seen mid beside ≡ Some bytes) × k.trusted mid beside × Carried k (publishing beside name) ok mid new
    whole worked = elim (first_call k (creates beside) (appends beside bytes ∷ publishing beside name) ok old new made) [
      | inl failed ↦ never ok failed.0 worked
      | inr one ↦ elim (first_call k (appends beside bytes) (publishing beside name) ok one.0 new one.2) [
        | inl failed ↦ never ok failed.0 worked
        | inr two ↦ (two.0, written one.0 two.0 one.1 two.1, two.1.trust beside (one.1.fresh refl), two.2)
      ]
    ]

    pub replace_kept : IsTrue ok → Keeps name (Some bytes) (k.may_leave new)
    replace_kept worked l left = let w = whole worked in publish_kept w.0 ok new w.2 w.3 worked l left ∙ w.1

    pub replace_file : IsTrue ok → (all : List ℕ) → k.may_hold new name all → all ≡ bytes
    replace_file worked all holds = let w = whole worked in some_is all bytes (sym (publish_file w.0 ok new w.2 w.3 worked all holds) ∙ w.1)

    pub replace_seen : IsTrue ok → k.seen new name ≡ Some bytes
    replace_seen worked = let w = whole worked in publish_seen w.0 ok new w.2 w.3 worked ∙ w.1

    module _ (apart : beside ≢ name) (only : (f : F) (c : Look) → k.left_since f (k.moment f) c → k.may_leave f c) where
      abbrev at : F → Standing
      at = standing k.seen k.may_hold k.may_leave k.moment k.left_since k.entry_kept k.trusted (λ _. 0) (λ _. 0)

      created : (mid : F) (went : Bool) → Does k (creates beside) went old mid → TouchesOnly beside (at old) (at mid)
      created mid went one = touched beside (at old) (at mid) (only old) one.elsewhere one.files one.entries one.trust one.crash one.time

      appended : (mid after : F) (went : Bool) → Does k (creates beside) true old mid → Does k (appends beside bytes) went mid after → TouchesOnly beside (at old) (at after)
      appended mid after went one two =
          touched_more beside (at old) (at mid) (at after) (created mid true one)
          (touched beside (at mid) (at after) (only mid) two.elsewhere two.files (λ n ne kept. two.entries n kept) (λ n ne was. two.trust n was)
          (written_elsewhere _ _ _ _ two.crash) two.time)

      pub replace_run : LeavesOnly k.moment k.left_since old new (IsOldOrWhole (k.may_leave old) beside name (Some bytes))
      replace_run = elim (first_call k (creates beside) (appends beside bytes ∷ publishing beside name) ok old new made) [
        | inl failed ↦ untouched new (created new false failed.1)
        | inr one ↦ elim (first_call k (appends beside bytes) (publishing beside name) ok one.0 new one.2) [
          | inl failed ↦ untouched new (appended one.0 new false one.1 failed.1)
          | inr two ↦
              named k.seen k.may_hold k.may_leave k.moment k.left_since k.entry_kept k.trusted (λ _. 0) (λ _. 0) beside name apart old two.0 new
              (appended one.0 two.0 true one.1 two.1) bytes (written one.0 two.0 one.1 two.1) (publish_run two.0 ok new (two.1.trust beside (one.1.fresh refl)) two.2 (only two.0))
        ]
      ]
        where
          untouched : (mid : F) → TouchesOnly beside (at old) (at mid) → LeavesOnly k.moment k.left_since old mid (IsOldOrWhole (k.may_leave old) beside name (Some bytes))
          untouched mid t = old_run k.seen k.may_hold k.may_leave k.moment k.left_since k.entry_kept k.trusted (λ _. 0) (λ _. 0) beside name apart old mid t (Some bytes)

-- what holds where a call worked
pub on_ok_from : {T E P : Type 0} (r : Result T E) → (IsTrue (is_ok r) → P) → OnOk r P
on_ok_from (Ok x) holds = holds refl
on_ok_from (Err e) holds = tt
