use Rattle.system_model.specs.Lists.{possible}
use Rattle.system_model.proofs.changes_are_possible.Goals as goal

pub returns : goal.returns
returns c = possible
