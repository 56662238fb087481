use Rattle.std.proofs.Common.{[], ◌∷◌, ap, subst, Ok}
use Rattle.std.proofs.lemmas.Result.{err_from_is_err_and}
use Rattle.document_framing.proofs.FeedLemmas.{fed_kept, first_now, failed_after, failed_now}
use Rattle.document_framing.proofs.feeding.feed_measured.Goals as goal

pub returns-in-Err-clause-ended : goal.returns-in-Err-clause-ended
returns-in-Err-clause-ended g c =
    failed_now g.S.DocumentSink.adds g.S.DocumentSink.fails g.met.S.DocumentSink.adds_none g.met.S.DocumentSink.adds_more
    _ c.args.sink.now c.wait_unless.new.sink c.in-Err.ensures.failed

pub returns-in_err-read_measured-clause-ended : goal.returns-in_err-read_measured-clause-ended
returns-in_err-read_measured-clause-ended g c =
    let given = err_from_is_err_and c.from_residual.result c.from_residual.ensures.1 in
    rw (given.1, given.2)
    (first_now g.S.DocumentSink.adds g.S.DocumentSink.fails g.met.S.DocumentSink.adds_none g.met.S.DocumentSink.adds_more
    _ _ c.args.sink.now c.wait_unless.new.sink
    (fed_kept g.S.DocumentSink.adds g.S.DocumentSink.fails g.met.S.DocumentSink.adds_none g.met.S.DocumentSink.adds_more
    _ c.args.sink.now c.wait_unless.new.sink c.in_default.ensures.kept))

pub returns-then-not-branch : goal.returns-then-not-branch
returns-then-not-branch g c =
    record {
      fed = record { documents = []; added = c.in_default.ensures.kept; given = c.in_ok-read_measured.ensures.none (ap Ok c.if-not-branch.true) };
      last = λ _. c.in_ok-read_measured.ensures.last (ap Ok c.if-not-branch.true);
      ended = tt;
    }

pub returns-in-Ok : goal.returns-in-Ok
returns-in-Ok g c =
    let document = c.read_measured.new.document.items in
    record {
      fed = record {
        documents = document ∷ [];
        added = g.met.S.DocumentSink.adds_more c.args.sink.now c.wait_unless.new.sink c.take.new.self [] (document ∷ [])
            c.in_default.ensures.kept
            (subst (λ d. g.S.DocumentSink.adds c.wait_unless.new.sink (d ∷ []) c.take.new.self) c.deref.ensures.value c.in-Ok.ensures.taken);
        given = c.in_ok-read_measured.ensures.some (ap Ok c.if-not-branch.false);
      };
      last = λ is. absurd (cc);
      ended = tt;
    }

pub returns-in-Err-take-clause-ended : goal.returns-in-Err-take-clause-ended
returns-in-Err-take-clause-ended g c =
    failed_after g.S.DocumentSink.adds g.S.DocumentSink.fails g.met.S.DocumentSink.adds_none g.met.S.DocumentSink.adds_more
    _ _ c.args.sink.now c.wait_unless.new.sink c.take.new.self
    (fed_kept g.S.DocumentSink.adds g.S.DocumentSink.fails g.met.S.DocumentSink.adds_none g.met.S.DocumentSink.adds_more
    _ c.args.sink.now c.wait_unless.new.sink c.in_default.ensures.kept)
    (failed_now g.S.DocumentSink.adds g.S.DocumentSink.fails g.met.S.DocumentSink.adds_none g.met.S.DocumentSink.adds_more
    _ c.wait_unless.new.sink c.take.new.self c.in-Err-take.ensures.failed)
