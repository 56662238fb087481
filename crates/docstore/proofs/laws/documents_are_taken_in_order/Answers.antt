use Rattle.docstore.proofs.TakenLemmas.{documents_are_taken_in_order}
use Rattle.docstore.proofs.laws.documents_are_taken_in_order.Goals as goal

pub returns : goal.returns
returns c = documents_are_taken_in_order
