use Rattle.store_published.proofs.StoreLemmas.{closed_store}
use Rattle.store_published.proofs.publishing.end_store.Goals as goal

pub returns-in-Ok-filled-clause-stored : goal.returns-in-Ok-filled-clause-stored
returns-in-Ok-filled-clause-stored g c =
    closed_store c.args.writer c.in-Ok.output.content
    (record { documents = c.num_docs-documents.result; blocks = c.num_blocks-blocks.result; bytes = c.num_bytes-bytes.result })
    c.written_documents_are_found.ensures c.ids_are_given_in_order.ensures c.num_docs-documents.ensures.count c.num_blocks-blocks.ensures c.num_bytes-bytes.ensures
    c.in-Ok.ensures.file c.in-Ok.ensures.store
