use Rattle.std.proofs.Common.{◌≤◌, length, map}
use Rattle.std.specs.Prelude.{IsTrue}
use Rattle.store_folder.specs.Moments.{LeavesOnly}
use Rattle.segmented_log.specs.Parts.{part_of}
use Rattle.segmented_log.specs.Dropping.{IsOldWithout}
use Rattle.segmented_log.proofs.RemoveLemmas.{AreLeft}
use Rattle.segmented_log.proofs.removing.remove_old.Given as goal

-- some of the first segments are gone
abbrev pub invariant-loop-next : goal.invariant-loop-next
invariant-loop-next g l = let F = g.F.Folder in
    let old = l.fn.folder in
    record {
      left : IsTrue F.honest
          → AreLeft l.number (map (λ s. part_of s.first s.reader) l.rest) l.tail_first l.first (F.seen old) (F.may_leave old) (F.seen l.folder) (F.may_leave l.folder);
      any_moment : IsTrue F.honest → LeavesOnly F.moment F.left_since old l.folder (IsOldWithout l.number (F.may_leave old));
      failures : F.failures old ≤ F.failures l.folder;
    }

abbrev pub decreases-loop-next : goal.decreases-loop-next
decreases-loop-next g l = length l.rest
