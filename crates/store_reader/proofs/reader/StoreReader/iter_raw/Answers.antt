use Rattle.store_reader.proofs.RecentLemmas.{same_along}
use Rattle.store_reader.proofs.reader.StoreReader.iter_raw.Goals as goal

pub returns-clause-same_store : goal.returns-clause-same_store
returns-clause-same_store g c = same_along _ _ _ _ _ c.first_walk-walk.ensures.looks
