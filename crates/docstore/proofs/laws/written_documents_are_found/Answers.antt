use Rattle.docstore.proofs.TakenLemmas.{written_documents_are_found}
use Rattle.docstore.proofs.laws.written_documents_are_found.Goals as goal

pub returns : goal.returns
returns c = written_documents_are_found
