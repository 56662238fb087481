use Rattle.std.proofs.Common.{◌≡◌, ◌≤◌, ◌+◌, ◌*◌, min, length, false}
use Rattle.std.specs.Prelude.{IsTrue}
use Rattle.store_folder.specs.Moments.{LeavesOnly}
use Rattle.segmented_log.specs.Log.{IsLog}
use Rattle.segmented_log.specs.Compacting.{Compacts, ChangesSegments}
use Rattle.segmented_log.specs.Joining.{AreJoinedFrom}
use Rattle.segmented_log.proofs.log.SegmentedLog.compact.Given as goal

-- some neighbours have become one
abbrev pub invariant-loop-next : goal.invariant-loop-next
invariant-loop-next g l = let F = g.F.Folder in
    let old = l.fn.self in
    record {
      works : l.self.is_broken ≡ false;
      commit : l.self.commit ≡ old.commit;
      tail : l.self.tail_bytes ≡ old.tail_bytes;
      seal_size : l.self.seal_size ≡ old.seal_size;
      first : l.self.first ≡ old.first;
      slots : IsTrue F.honest → l.self.slots ≡ old.slots;
      pending : l.self.pending ≡ old.pending;
      joins : IsTrue F.honest → Compacts l.size old.segments l.self.segments;
      packed : IsTrue F.honest → AreJoinedFrom (F.seen old.folder) (F.seen l.self.folder);
      files : IsTrue F.honest → ChangesSegments (F.seen old.folder) (F.seen l.self.folder);
      any_moment : IsTrue F.honest → LeavesOnly F.moment F.left_since old.folder l.self.folder (IsLog old.first old.slots);
      failures : F.failures old.folder ≤ F.failures l.self.folder;
    }

-- a step leaves fewer segments
abbrev pub decreases-loop-next : goal.decreases-loop-next
decreases-loop-next g l = 2 * length l.self.segments + min l.from 1
