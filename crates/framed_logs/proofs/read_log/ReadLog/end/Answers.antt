use Rattle.std.proofs.Common.{sym, ap, subst}
use Rattle.segmented_log.specs.Log.{IsLog}
use Rattle.framed_logs.proofs.ReadLemmas.{reads_one}
use Rattle.framed_logs.proofs.read_log.ReadLog.end.Goals as goal

pub returns-clause-end : goal.returns-clause-end
returns-clause-end g c honest first all is =
    let seen = subst (λ f. IsLog first all (g.F.Folder.seen f)) (sym (ap (λ v. v.folder) c.self.view_is)) is in
    (reads_one c.folders_are_one_log.ensures _ _ _ first _ all (c.self.invariant honest) seen).2
