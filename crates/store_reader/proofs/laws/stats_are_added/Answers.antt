use Rattle.store_reader.proofs.CacheSumLemmas.{stats_are_added}
use Rattle.store_reader.proofs.laws.stats_are_added.Goals as goal

pub returns : goal.returns
returns c = stats_are_added
