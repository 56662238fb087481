use Rattle.store_reader.proofs.TwoReadsLemmas.{blocks_say_counts}
use Rattle.store_reader.proofs.laws.blocks_say_counts.Goals as goal

pub returns : goal.returns
returns c = blocks_say_counts
