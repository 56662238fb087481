use Rattle.store_reader.proofs.CachedBlocksLemmas.{front_found}
use Rattle.store_reader.proofs.cache.RecentBlocks.answer_front.Goals as goal

pub returns-in-Some-clause-order : goal.returns-in-Some-clause-order
returns-in-Some-clause-order c some = (front_found c.args.key c.in-Some.front.now c.in-Some.block.now c.args.blocks.now.entries c.in-Some.ensures c.if-front-key.true).1

pub returns-in-Some-clause-answer : goal.returns-in-Some-clause-answer
returns-in-Some-clause-answer c = rw (front_found c.args.key c.in-Some.front.now c.in-Some.block.now c.args.blocks.now.entries c.in-Some.ensures c.if-front-key.true).0 c.answer_request.ensures
