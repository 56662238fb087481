use Rattle.std.proofs.Common.{◌≡◌, ◌<◌, ◌-◌, ◌∷◌, [], false, eqb, get_or, length, sym, ap, subst, ◌∙◌, arith, eq-eqb}
use Rattle.std.proofs.lemmas.Bool.{false≢true}
use Rattle.std.proofs.lemmas.List.{get_or_default}
use Rattle.std.proofs.lemmas.Result.{err_from_is_err_and}
use Rattle.document_framing.specs.Framings.{document_in}
use Rattle.document_framing.proofs.FeedLemmas.{nothing_read, last_read, fed_piece, none_fed, failed_now}
use Rattle.document_framing.proofs.feeding.feed_piece.Goals as goal

pub returns-in_err-read_through-clause-ended : goal.returns-in_err-read_through-clause-ended
returns-in_err-read_through-clause-ended g c =
    let given = err_from_is_err_and c.from_residual.result c.from_residual.ensures.1 in
    rw (given.1, given.2)
    (none_fed g.S.DocumentSink.adds g.S.DocumentSink.fails g.met.S.DocumentSink.adds_none g.met.S.DocumentSink.adds_more _ c.args.sink.now)

pub returns-then-len-eq0 : goal.returns-then-len-eq0
returns-then-len-eq0 g c =
    let nothing = nothing_read c.args.framing c.args.end c.read_through.new.document.items _ _ c.requires
    c.in_ok-read_through.ensures.bytes c.in_ok-read_through.ensures.rest (omega arith) in
    record {
      fed = record { documents = []; added = g.met.S.DocumentSink.adds_none c.args.sink.now; given = nothing.0 };
      last = λ _. nothing.1;
      ended = tt;
    }

pub returns-in-Ok : goal.returns-in-Ok
returns-in-Ok g c =
    let piece = c.read_through.new.document.items in
    let some : 0 < length piece = omega (arith, c.if-len-eq0.false) in
    let shown = subst (λ p. g.S.DocumentSink.adds c.args.sink.now (p ∷ []) c.take.new.self)
    (c.document_in.ensures ∙ ap (document_in c.args.framing) c.deref.ensures.value) c.in-Ok.ensures.taken in
    record {
      fed = fed_piece g.S.DocumentSink.adds g.S.DocumentSink.fails g.met.S.DocumentSink.adds_none g.met.S.DocumentSink.adds_more
          c.args.framing c.args.end piece _ _ c.args.sink.now c.take.new.self c.requires
          c.in_ok-read_through.ensures.bytes c.in_ok-read_through.ensures.rest some shown;
      last = λ is. last_read c.args.framing c.args.end piece _ _ c.requires
          c.in_ok-read_through.ensures.bytes c.in_ok-read_through.ensures.rest (λ _ ends.
          let len : c.len-len.result ≡ length piece = omega arith in
          let last : c.index.result.now ≡ c.args.end =
          c.index.ensures ∙ get_or_default piece (c.len-len.result - 1) _ 0 (omega arith) ∙ ap (λ n. get_or piece (n - 1) 0) len ∙ ends in
          let open' : eqb c.index.result.now c.args.end ≡ false = cc in
          false≢true (sym open' ∙ eq-eqb _ _ last));
      ended = tt;
    }

pub returns-in-Err-clause-ended : goal.returns-in-Err-clause-ended
returns-in-Err-clause-ended g c = failed_now g.S.DocumentSink.adds g.S.DocumentSink.fails g.met.S.DocumentSink.adds_none
    g.met.S.DocumentSink.adds_more _ c.args.sink.now c.take.new.self c.in-Err.ensures.failed
