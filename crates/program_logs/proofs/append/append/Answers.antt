use Rattle.program_logs.proofs.AppendLemmas.{appended}
use Rattle.program_logs.proofs.append.append.Goals as goal

pub returns-in-Ok-append_all : goal.returns-in-Ok-append_all
returns-in-Ok-append_all g c honest =
    appended _ _ c.in-Ok.appending.log.value c.append_all.new.appending.log.value c.in-Ok.appending.numbers c.append_all.new.appending.numbers _
    (c.in-Ok.ensures.log honest) c.in-Ok.ensures.output (c.in-Ok-append_all.ensures honest)
