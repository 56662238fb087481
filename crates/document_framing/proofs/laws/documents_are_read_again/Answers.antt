use Rattle.document_framing.proofs.LawLemmas.{read_again}
use Rattle.document_framing.proofs.laws.documents_are_read_again.Goals as goal

pub returns : goal.returns
returns c = read_again
