use Rattle.std.proofs.Common.{◌≡◌, ◌≤◌, take, false}
use Rattle.std.specs.Prelude.{IsTrue}
use Rattle.store_folder.specs.Moments.{LeavesOnly}
use Rattle.segmented_log.specs.Runs.{pending_by, Drops, Makes, HasBeginning}
use Rattle.segmented_log.proofs.runs.call_all.Given as goal

abbrev pub invariant-loop-next : goal.invariant-loop-next
invariant-loop-next g l = let old = l.fn.log in
    let calls = take l.next-index l.calls in
    let F = g.F.Folder in
    record {
      works : l.log.is_broken ≡ false;
      commit : l.log.commit ≡ old.commit;
      first : (Drops l.calls → ⊥) → l.log.first ≡ old.first;
      makes : IsTrue F.honest → Makes calls old.pending old.first old.slots l.log.first l.log.slots;
      pending : l.log.pending ≡ pending_by old.pending calls;
      any_moment : IsTrue F.honest → LeavesOnly F.moment F.left_since old.folder l.log.folder (HasBeginning old.commit old.first old.slots old.pending l.calls);
      failures : F.failures old.folder ≤ F.failures l.log.folder;
    }
