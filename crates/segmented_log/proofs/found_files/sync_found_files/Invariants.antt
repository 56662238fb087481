use Rattle.std.proofs.Common.{◌≤◌, map, take, string_bytes}
use Rattle.std.specs.Prelude.{IsTrue}
use Rattle.store_folder.specs.Moments.{LeavesOnly}
use Rattle.segmented_log.proofs.FoundLemmas.{AreSynced}
use Rattle.segmented_log.proofs.found_files.sync_found_files.Given as goal

-- the log's files among the names so far are on the disk
abbrev pub invariant-loop-name : goal.invariant-loop-name
invariant-loop-name g l = let old = l.fn.folder in
    let F = g.F.Folder in
    record {
      synced : IsTrue F.honest
          → AreSynced (F.seen old) (F.may_leave old) (map string_bytes (take l.name-index l.names)) l.all (F.seen l.folder) (F.may_hold l.folder) (F.may_leave l.folder) (F.trusted l.folder);
      any_moment : IsTrue F.honest → LeavesOnly F.moment F.left_since old l.folder (F.may_leave old);
      failures : F.failures old ≤ F.failures l.folder;
    }
