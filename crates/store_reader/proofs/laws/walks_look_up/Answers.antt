use Rattle.store_reader.proofs.BlocksAlongLemmas.{walks_look_up}
use Rattle.store_reader.proofs.laws.walks_look_up.Goals as goal

pub returns : goal.returns
returns c = walks_look_up
