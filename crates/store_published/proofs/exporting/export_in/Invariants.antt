use Rattle.std.proofs.Common.{string_bytes}
use Rattle.store_published.proofs.exporting.export_in.Given as goal

abbrev pub ghosts-export_beside : goal.ghosts-export_beside
ghosts-export_beside g a = record {
  first = record {
    seen = g.F.Folder.seen a.folder.now;
    may_hold = g.F.Folder.may_hold a.folder.now;
    may_leave = g.F.Folder.may_leave a.folder.now;
    moment = g.F.Folder.moment a.folder.now;
    left_since = g.F.Folder.left_since a.folder.now;
    entry_kept = g.F.Folder.entry_kept a.folder.now;
    trusted = g.F.Folder.trusted a.folder.now;
    handle = a.folder.ghost_name;
    failures = g.F.Folder.failures a.folder.now;
  };
  name = string_bytes a.beside;
}
