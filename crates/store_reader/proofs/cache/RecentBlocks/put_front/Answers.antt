use Rattle.store_reader.proofs.CachedBlocksLemmas.{entries-put}
use Rattle.store_reader.proofs.cache.RecentBlocks.put_front.Goals as goal

pub returns-clause-entries : goal.returns-clause-entries
returns-clause-entries c = rw c.is_ok.ensures.value (entries-put c.args.key c.args.block c.args.blocks.now c.put.new.self c.put.result c.requires c.put.ensures.entries c.put.ensures.err)
