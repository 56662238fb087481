use Rattle.store_reader.proofs.RecentLemmas.{looks_are_recent}
use Rattle.store_reader.proofs.laws.looks_are_recent.Goals as goal

pub returns : goal.returns
returns c = looks_are_recent
