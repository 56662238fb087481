use Rattle.docstore.proofs.StackLawLemmas.{flushes_keep_slots}
use Rattle.docstore.proofs.laws.flushes_keep_slots.Goals as goal

pub returns : goal.returns
returns c = flushes_keep_slots
