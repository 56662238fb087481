use Rattle.std.proofs.Common.{◌≡◌, ◌≤◌, ◌-◌, ◌^◌, false}
use Rattle.std.specs.Prelude.{IsTrue}
use Rattle.store_folder.specs.Moments.{LeavesOnly}
use Rattle.segmented_log.specs.Dropping.{IsRest, DropsTo, RemovesOnly}
use Rattle.segmented_log.proofs.log.SegmentedLog.drop_before.Given as goal

-- some of the first segments are removed
abbrev pub invariant-loop : goal.invariant-loop
invariant-loop g l = let F = g.F.Folder in
    let old = l.fn.self in
    record {
      works : l.self.is_broken ≡ false;
      commit : l.self.commit ≡ old.commit;
      tail : l.self.tail_bytes ≡ old.tail_bytes;
      seal_size : l.self.seal_size ≡ old.seal_size;
      rest : IsTrue F.honest → IsRest old.first old.slots l.number l.self.first l.self.slots;
      pending : l.self.pending ≡ old.pending;
      files : IsTrue F.honest → RemovesOnly l.number (F.seen old.folder) (F.seen l.self.folder);
      any_moment : IsTrue F.honest → LeavesOnly F.moment F.left_since old.folder l.self.folder (DropsTo old.first old.slots l.number);
      failures : F.failures old.folder ≤ F.failures l.self.folder;
    }

-- the first number grows
abbrev pub decreases-loop : goal.decreases-loop
decreases-loop g l = 2 ^ 64 - l.self.first
