use Rattle.docstore.proofs.StackLawLemmas.{stacking_is_associative}
use Rattle.docstore.proofs.laws.stacking_is_associative.Goals as goal

pub returns : goal.returns
returns c = stacking_is_associative
