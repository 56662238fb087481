use Rattle.segmented_log.proofs.RunLemmas.{only_drops_remove}
use Rattle.segmented_log.proofs.laws.only_drops_remove.Goals as goal

pub returns : goal.returns
returns c = only_drops_remove
