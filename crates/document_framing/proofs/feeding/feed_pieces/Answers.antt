use Rattle.std.specs.Io.Buffered.{reader_remaining}
use Rattle.document_framing.specs.Feeding.{Feeds, known_documents}
use Rattle.document_framing.proofs.FeedLemmas.{fed_kept, fed_more, failed_after, failed_now, spent_after, ended_after, on_ok, if_err}
use Rattle.document_framing.proofs.feeding.feed_pieces.Goals.{In_default-wait_unless}
use Rattle.document_framing.proofs.feeding.feed_pieces.Goals as goal

-- what the sink took from the buffer
buffered : (g : _) (c : In_default-wait_unless g)
    → Feeds g.S.DocumentSink.adds (known_documents c.args.framing (reader_remaining g.R.Read.remaining c.args.input.now))
    (known_documents c.args.framing (reader_remaining g.R.Read.remaining c.feed_buffered.new.input)) c.args.sink.now c.wait_unless.new.sink
buffered g c =
    fed_more g.S.DocumentSink.adds g.S.DocumentSink.fails g.met.S.DocumentSink.adds_none g.met.S.DocumentSink.adds_more
    _ _ _ c.args.sink.now c.feed_buffered.new.sink c.wait_unless.new.sink
    c.in_default.ensures.fed
    (fed_kept g.S.DocumentSink.adds g.S.DocumentSink.fails g.met.S.DocumentSink.adds_none g.met.S.DocumentSink.adds_more
    _ c.feed_buffered.new.sink c.wait_unless.new.sink c.in_default-wait_unless.ensures.kept)

pub returns-clause-fed : goal.returns-clause-fed
returns-clause-fed g c =
    on_ok c.feed_piece.result _ _
    (fed_more g.S.DocumentSink.adds g.S.DocumentSink.fails g.met.S.DocumentSink.adds_none g.met.S.DocumentSink.adds_more
    _ _ _ c.args.sink.now c.wait_unless.new.sink c.feed_piece.new.sink (buffered g (goal.at.returns-clause-fed g c).In_default-wait_unless))
    c.feed_piece.ensures.fed

pub returns-clause-last : goal.returns-clause-last
returns-clause-last g c is =
    let before = buffered g (goal.at.returns-clause-last g c).In_default-wait_unless in
    spent_after _ _ _ before.documents before.given (c.feed_piece.ensures.last is)

pub returns-clause-ended : goal.returns-clause-ended
returns-clause-ended g c =
    if_err c.feed_piece.result _ _
    (λ e. ended_after g.S.DocumentSink.adds g.S.DocumentSink.fails g.met.S.DocumentSink.adds_none g.met.S.DocumentSink.adds_more
    _ _ c.args.sink.now c.wait_unless.new.sink c.feed_piece.new.sink e (buffered g (goal.at.returns-clause-ended g c).In_default-wait_unless))
    c.feed_piece.ensures.ended

pub returns-in-Err-wait_unless-clause-ended : goal.returns-in-Err-wait_unless-clause-ended
returns-in-Err-wait_unless-clause-ended g c =
    failed_after g.S.DocumentSink.adds g.S.DocumentSink.fails g.met.S.DocumentSink.adds_none g.met.S.DocumentSink.adds_more
    _ _ c.args.sink.now c.feed_buffered.new.sink c.wait_unless.new.sink c.in_default.ensures.fed
    (failed_now g.S.DocumentSink.adds g.S.DocumentSink.fails g.met.S.DocumentSink.adds_none g.met.S.DocumentSink.adds_more
    _ c.feed_buffered.new.sink c.wait_unless.new.sink c.in-Err-wait_unless.ensures.failed)
