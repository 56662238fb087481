use Rattle.docstore.proofs.EndToEndLemmas.{written_lists_are_found}
use Rattle.docstore.proofs.laws.written_lists_are_found.Goals as goal

pub returns : goal.returns
returns c = written_lists_are_found
