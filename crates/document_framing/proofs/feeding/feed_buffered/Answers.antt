use Rattle.std.proofs.Common.{◌≡◌, ◌≤◌, ◌++◌, ℕ, List, IfSome, length, sym, subst}
use Rattle.std.proofs.lemmas.Result.{err_from_is_err_and}
use Rattle.std.specs.Io.Buffered.{reader_buffer, reader_remaining}
use Rattle.document_framing.proofs.FeedLemmas.{buffer_first, failed_buffered, fed_buffered, left_buffered}
use Rattle.document_framing.proofs.feeding.feed_buffered.Goals as goal

pub returns-in_err-taken-clause-ended : goal.returns-in_err-taken-clause-ended
returns-in_err-taken-clause-ended g c =
    let given = err_from_is_err_and c.from_residual.result c.from_residual.ensures.1 in
    let known = reader_remaining g.R.Read.remaining c.args.input.now in
    rw given.1
    (failed_buffered g.S.DocumentSink.adds g.S.DocumentSink.fails g.met.S.DocumentSink.adds_none g.met.S.DocumentSink.adds_more
    c.args.framing c.args.end c.buffer.result.now known c.args.sink.now c.feed_whole.new.sink c.requires
    (subst (λ l. IfSome known (λ xs. (ys : List ℕ) × (xs ≡ l ++ ys))) (sym c.buffer.ensures) (buffer_first _ _ _))
    c.in_err-taken.ensures.ended)

pub returns-clause-fed : goal.returns-clause-fed
returns-clause-fed g c =
    let known = reader_remaining g.R.Read.remaining c.args.input.now in
    let within = c.in_ok-taken.ensures.within in
    fed_buffered g.S.DocumentSink.adds g.S.DocumentSink.fails g.met.S.DocumentSink.adds_none g.met.S.DocumentSink.adds_more
    c.args.framing c.args.end c.in_ok-taken.taken c.buffer.result.now known (reader_remaining g.R.Read.remaining c.consume.new.self)
    c.args.sink.now c.feed_whole.new.sink c.requires within
    (subst (λ l. IfSome known (λ xs. (ys : List ℕ) × (xs ≡ l ++ ys))) (sym c.buffer.ensures) (buffer_first _ _ _))
    (left_buffered known _ (length (reader_buffer c.args.input.now)) c.in_ok-taken.taken
    (subst (λ l. c.in_ok-taken.taken ≤ length l) c.buffer.ensures within) c.consume.ensures.bytes)
    c.in_ok-taken.ensures.fed
