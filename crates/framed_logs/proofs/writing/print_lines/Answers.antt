use Rattle.framed_logs.proofs.PrintLemmas.{first_kept}
use Rattle.framed_logs.proofs.writing.print_lines.Goals as goal

pub returns-clause-first : goal.returns-clause-first
returns-clause-first g c = first_kept _ _ _ _ _ c.in_ok-write_lines.ensures.all c.flush.ensures.bytes
