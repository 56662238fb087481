use Rattle.docstore.proofs.MeaningLemmas.{blocks_mean_their_calls}
use Rattle.docstore.proofs.laws.blocks_mean_their_calls.Goals as goal

pub returns : goal.returns
returns c = blocks_mean_their_calls
