use Rattle.segmented_log.proofs.UniqueLemmas.{same_log}
use Rattle.segmented_log.proofs.laws.folders_are_one_log.Goals as goal

pub returns : goal.returns
returns c = same_log c.stores_are_apart.ensures
