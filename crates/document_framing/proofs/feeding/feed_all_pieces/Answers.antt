use Rattle.std.proofs.Common.{Ok, ap}
use Rattle.std.proofs.lemmas.Result.{err_from_is_err_and}
use Rattle.document_framing.proofs.FeedLemmas.{fed_all, fed_more, first_now, spent_after, ended_after}
use Rattle.document_framing.proofs.feeding.feed_all_pieces.Goals as goal

pub loop-preserved : goal.loop-preserved
loop-preserved g c =
    fed_more g.S.DocumentSink.adds g.S.DocumentSink.fails g.met.S.DocumentSink.adds_none g.met.S.DocumentSink.adds_more
    _ _ _ c.args.sink.now c.loop.sink c.feed_pieces.new.sink c.loop.invariant c.in_ok-feed_pieces.ensures.fed

pub returns-in_err-feed_pieces-clause-ended : goal.returns-in_err-feed_pieces-clause-ended
returns-in_err-feed_pieces-clause-ended g c =
    let given = err_from_is_err_and c.from_residual.result c.from_residual.ensures.1 in
    rw (given.1, given.2)
    (ended_after g.S.DocumentSink.adds g.S.DocumentSink.fails g.met.S.DocumentSink.adds_none g.met.S.DocumentSink.adds_more
    _ _ c.args.sink.now c.loop.sink c.feed_pieces.new.sink c.in_err-feed_pieces.field-0.0 c.loop.invariant c.in_err-feed_pieces.ensures.ended)

pub returns-then-not-branch-clause-fed : goal.returns-then-not-branch-clause-fed
returns-then-not-branch-clause-fed g c =
    fed_all g.S.DocumentSink.adds g.S.DocumentSink.fails g.met.S.DocumentSink.adds_none g.met.S.DocumentSink.adds_more
    _ _ c.args.sink.now c.feed_pieces.new.sink
    (fed_more g.S.DocumentSink.adds g.S.DocumentSink.fails g.met.S.DocumentSink.adds_none g.met.S.DocumentSink.adds_more
    _ _ _ c.args.sink.now c.loop.sink c.feed_pieces.new.sink c.loop.invariant c.in_ok-feed_pieces.ensures.fed)
    (spent_after _ _ _ c.loop.invariant.documents c.loop.invariant.given (c.in_ok-feed_pieces.ensures.last (ap Ok c.if-not-branch.true)))

pub returns-clause-ended : goal.returns-clause-ended
returns-clause-ended g c =
    first_now g.S.DocumentSink.adds g.S.DocumentSink.fails g.met.S.DocumentSink.adds_none g.met.S.DocumentSink.adds_more
    _ _ c.args.sink.now c.loop.sink c.loop.invariant
