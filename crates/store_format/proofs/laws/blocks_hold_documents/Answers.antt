use Rattle.store_format.proofs.DocumentLemmas.{blocks_hold_documents}
use Rattle.store_format.proofs.laws.blocks_hold_documents.Goals as goal

pub returns : goal.returns
returns c = blocks_hold_documents
