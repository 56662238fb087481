use Rattle.docstore.proofs.StackLawLemmas.{stores_are_stacked_in_order}
use Rattle.docstore.proofs.laws.stores_are_stacked_in_order.Goals as goal

pub returns : goal.returns
returns c = stores_are_stacked_in_order
