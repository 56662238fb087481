use Rattle.docstore.proofs.EndToEndLemmas.{documents_have_their_ids}
use Rattle.docstore.proofs.laws.documents_have_their_ids.Goals as goal

pub returns : goal.returns
returns c = documents_have_their_ids
