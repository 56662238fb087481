use Rattle.document_framing.proofs.LawLemmas.{written_again}
use Rattle.document_framing.proofs.laws.lines_are_written_again.Goals as goal

pub returns : goal.returns
returns c = written_again
