use Rattle.store_commands.proofs.TakingLemmas.{takes_one}
use Rattle.store_commands.proofs.block_walk.give_document.Goals as goal

pub returns-in-Ok-clause-given : goal.returns-in-Ok-clause-given
returns-in-Ok-clause-given g c =
    takes_one g.T.DocumentTarget.takes c.args.target.now c.take.new.self _ c.in_ok-document.document.now c.args.doc_id c.in_ok-document.ensures c.in-Ok.ensures.taken
