use Rattle.layered_index.proofs.CheckpointLemmas.{checkpoint_blocks_are_apart}
use Rattle.layered_index.proofs.laws.checkpoint_blocks_are_apart.Goals as goal

pub returns : goal.returns
returns c = checkpoint_blocks_are_apart
