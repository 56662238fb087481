use Rattle.store_reader.proofs.StoreTailLemmas.{wanted_once}
use Rattle.store_reader.proofs.laws.tails_are_wanted_once.Goals as goal

pub returns : goal.returns
returns c = wanted_once
