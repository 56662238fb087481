use Rattle.store_reader.proofs.RecentLemmas.{look_ups_are_counted}
use Rattle.store_reader.proofs.laws.look_ups_are_counted.Goals as goal

pub returns : goal.returns
returns c = look_ups_are_counted
