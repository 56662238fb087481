use Rattle.std.proofs.Common.{◌≤◌, true, map, take, IsTrue}
use Rattle.store_folder.specs.Calls.{doing_of, kind, Carried}
use Rattle.store_folder.proofs.calls.carry_out.Given as goal

abbrev pub invariant-loop-call : goal.invariant-loop-call
invariant-loop-call g l = record {
  made : IsTrue g.F.Folder.honest → Carried (kind g.F.Folder.seen g.F.Folder.may_hold g.F.Folder.may_leave g.F.Folder.moment g.F.Folder.left_since g.F.Folder.entry_kept g.F.Folder.trusted)
      (map doing_of (take l.call-index l.calls)) true l.initial.folder l.folder;
  count : g.F.Folder.failures l.initial.folder ≤ g.F.Folder.failures l.folder;
}
