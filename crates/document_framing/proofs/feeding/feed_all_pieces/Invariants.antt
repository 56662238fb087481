-- The sink took the documents by which those that are left became fewer.
use Rattle.std.specs.Io.Buffered.{reader_remaining}
use Rattle.document_framing.specs.Feeding.{Feeds, known_documents}
use Rattle.document_framing.proofs.feeding.feed_all_pieces.Given as goal

abbrev pub invariant-loop : goal.invariant-loop
invariant-loop g l = Feeds g.S.DocumentSink.adds (known_documents l.fn.framing (reader_remaining g.R.Read.remaining l.initial.input))
    (known_documents l.fn.framing (reader_remaining g.R.Read.remaining l.input)) l.initial.sink l.sink
