use Rattle.docstore.proofs.StackLawLemmas.{stacked_alone_is_the_same}
use Rattle.docstore.proofs.laws.stacked_alone_is_the_same.Goals as goal

pub returns : goal.returns
returns c = stacked_alone_is_the_same
