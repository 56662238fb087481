use Rattle.store_reader.proofs.StoredLemmas.{stored_documents_are_got}
use Rattle.store_reader.proofs.laws.stored_documents_are_got.Goals as goal

pub returns : goal.returns
returns g c = stored_documents_are_got g.D.Document.doc_bytes (g.D.DocumentDeserialize.reading 2) g.D.StoredDocument.stored g.met.D.StoredDocument.read_back
