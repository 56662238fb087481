use Rattle.docstore.proofs.StackLawLemmas.{stacked_files_are_joined}
use Rattle.docstore.proofs.laws.stacked_files_are_joined.Goals as goal

pub returns : goal.returns
returns c = stacked_files_are_joined
