use Rattle.store_format.proofs.ApartLemmas.{stores_are_apart}
use Rattle.store_format.proofs.laws.stores_are_apart.Goals as goal

pub returns : goal.returns
returns c = stores_are_apart
