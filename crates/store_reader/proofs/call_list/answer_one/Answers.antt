use Rattle.store_reader.proofs.CallAnswersLemmas.{looks_of_get}
use Rattle.store_reader.proofs.call_list.answer_one.Goals as goal

pub returns-in-Bytes-clause-looks : goal.returns-in-Bytes-clause-looks
returns-in-Bytes-clause-looks g c =
    looks_of_get c.in-Bytes.doc_id c.args.call.now c.get_document_bytes.result c.args.reader.now c.get_document_bytes.new.self c.in-Bytes.is c.get_document_bytes.ensures.no_read
    c.get_document_bytes.ensures.answered
