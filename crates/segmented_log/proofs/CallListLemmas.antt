-- What a crash leaves once the calls of a list were made.
use Rattle.std.proofs.Common.{◌≡◌, inl, inr, ℕ, List, ◌++◌, length, Bool, false, None, refl, ◌∙◌}
use Rattle.std.specs.Prelude.{IsTrue}
use Rattle.store_folder.specs.Moments.{LeavesOnly}
use Rattle.store_folder.specs.Folder.{Look, Elsewhere, Keeps}
use Rattle.store_folder.specs.Calls.{Kind, Carried, appends, syncs, removes, syncs_folder}
use Rattle.store_folder.proofs.CallsLemmas.{two}
use Rattle.segmented_log.specs.Names.{segment_name, tail_name}
use Rattle.segmented_log.specs.CallLists.{appending, removing}
use Rattle.segmented_log.specs.Settled.{TailIsKept, GrowsTail}
use Rattle.segmented_log.proofs.GrowLemmas.{grown_kept, run_appended, run_synced}
use Rattle.segmented_log.proofs.DropLemmas.{leads_to_none}

never : {A : Type 0} (ok : Bool) → ok ≡ false → IsTrue ok → A
never ok failed worked = let none : ⊥ = cc in absurd none

-- a batch was put after the tail
module _ {F : Type 0} (k : Kind F) (batch tail : List ℕ) (ok : Bool) (old new : F) (made : Carried k (appending batch) ok old new)
    (kept : TailIsKept (k.may_hold old) (k.may_leave old) (k.entry_kept old) (k.trusted old) tail) where
  pub append_grows : ((c : Look) → k.left_since old (k.moment old) c → k.may_leave old c) → LeavesOnly k.moment k.left_since old new (GrowsTail (k.may_leave old) tail (length batch))
  append_grows only = elim (two k (appends tail_name batch) (syncs tail_name) ok old new made) [
    | inl failed ↦
        run_appended k.may_leave k.moment k.left_since (k.may_hold old) (k.entry_kept old) (k.trusted old) tail old new only kept (length batch)
        (k.may_hold new tail_name) failed.1.file failed.1.crash failed.1.time
    | inr went ↦
        run_synced k.may_leave k.moment k.left_since (k.may_hold old) (k.entry_kept old) (k.trusted old) tail old went.0 only kept (length batch)
        (k.may_hold went.0 tail_name) went.1.file went.1.crash went.1.time new went.2.crash went.2.time
  ]

  pub append_elsewhere : Elsewhere tail_name (k.seen old) (k.seen new)
  append_elsewhere n ne = elim (two k (appends tail_name batch) (syncs tail_name) ok old new made) [
    | inl failed ↦ failed.1.elsewhere n ne
    | inr went ↦ went.2.elsewhere n ne ∙ went.1.elsewhere n ne
  ]

  pub append_kept : k.may_leave old (k.seen old) → IsTrue ok → TailIsKept (k.may_hold new) (k.may_leave new) (k.entry_kept new) (k.trusted new) (tail ++ batch)
  append_kept there worked = elim (two k (appends tail_name batch) (syncs tail_name) ok old new made) [
    | inl failed ↦ never ok failed.0 worked
    | inr went ↦
        let trusted : k.trusted went.0 tail_name = went.1.trust tail_name kept.trust in
        grown_kept (k.may_hold old) (k.may_leave old) (k.entry_kept old) (k.trusted old) tail kept (k.seen old) (k.seen went.0) batch (k.entry_kept went.0) (k.entry_kept new) (k.trusted new)
        (k.may_hold new)
        (k.may_leave new) (kept.outcomes (k.seen old) there) (went.1.appended refl) went.1.entries went.2.entries (went.2.durable worked trusted) (went.2.kept worked trusted)
        (went.2.trust worked tail_name trusted)
  ]

-- a segment was removed
pub remove_gone : {F : Type 0} (k : Kind F) (first : ℕ) (ok : Bool) (old new : F) → Carried k (removing first) ok old new → IsTrue ok → Keeps (segment_name first) None (k.may_leave new)
remove_gone k first ok old new made worked = elim (two k (removes (segment_name first)) syncs_folder ok old new made) [
  | inl failed ↦ never ok failed.0 worked
  | inr went ↦ λ c left.
      leads_to_none (k.seen went.0 (segment_name first)) (c (segment_name first)) (k.may_hold went.0 (segment_name first)) (went.1.removed refl) (went.2.durable worked c left (segment_name first))
]
