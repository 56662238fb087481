use Rattle.docstore.proofs.StackLawLemmas.{stacked_slots_are_counted}
use Rattle.docstore.proofs.laws.stacked_slots_are_counted.Goals as goal

pub returns : goal.returns
returns c = stacked_slots_are_counted
