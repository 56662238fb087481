use Rattle.std.proofs.Common.{◌∙◌, ap}
use Rattle.program_logs.proofs.PrintLemmas.{same_log}
use Rattle.program_logs.proofs.logs.ReadLogs.bounds.Goals as goal

pub returns : goal.returns
returns g c honest first all at =
    let same = c.deref-read.ensures in
    let here = same_log g.S.SystemFiles.changes g.S.SystemFiles.start first all c.deref-read.result.now.folder.system.value c.args.self.now
    c.deref-read.result.now.folder.path c.args.path.now (ap (λ r. r.folder.system.value) same ∙ c.in_ok-opened.ensures.system)
    (ap (λ r. r.folder.path) same ∙ c.in_ok-opened.ensures.path) at in
    (c.first.ensures.first honest first all here, c.end.ensures.end honest first all here)
