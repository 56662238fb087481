use Rattle.docstore.proofs.TakenLemmas.{ids_are_given_in_order}
use Rattle.docstore.proofs.laws.ids_are_given_in_order.Goals as goal

pub returns : goal.returns
returns c = ids_are_given_in_order
