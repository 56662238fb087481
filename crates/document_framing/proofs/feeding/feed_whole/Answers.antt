use Rattle.std.proofs.Common.{◌≡◌, ◌+◌, ◌≤◌, ◌∷◌, [], ◌++◌, List, ℕ, length, take, drop, refl, sym, ap, subst, ◌∙◌, arith, length-drop, length-append, length-take, take_at, append_assoc}
use Rattle.std.proofs.Common.{take-append-drop}
use Rattle.std.proofs.lemmas.List.{drop-drop, drop_at}
use Rattle.std.proofs.lemmas.Result.{err_from_is_err_and}
use Rattle.document_framing.specs.Framings.{IsPiece}
use Rattle.document_framing.specs.Taking.{TakesPieces}
use Rattle.document_framing.proofs.FeedLemmas.{took_none, took_more, failed_within}
use Rattle.document_framing.proofs.feeding.feed_whole.Goals as goal

-- the bytes that were taken, and one piece more
taken_more : (end taken : ℕ) (bytes rest piece after : List ℕ) → taken ≤ length bytes → rest ≡ drop taken bytes
    → IsPiece end rest piece after → take (taken + length piece) bytes ≡ take taken bytes ++ piece
taken_more end taken bytes rest piece after within is found =
    let whole : bytes ≡ (take taken bytes ++ piece) ++ after =
    sym (take-append-drop taken bytes) ∙ ap (λ l. take taken bytes ++ l) (sym is ∙ found.whole) ∙ sym (append_assoc (take taken bytes) piece after) in
    ap (take (taken + length piece)) whole
    ∙ take_at (take taken bytes ++ piece) after (taken + length piece) (omega (arith, length-append (take taken bytes) piece, length-take taken bytes))

within_more : (end taken : ℕ) (bytes rest piece after : List ℕ) → taken ≤ length bytes → rest ≡ drop taken bytes
    → IsPiece end rest piece after → taken + length piece ≤ length bytes
within_more end taken bytes rest piece after within is found =
    omega (arith, ap length (sym is ∙ found.whole), length-append piece after, length-drop taken bytes)

after_more : (end taken : ℕ) (bytes rest piece after : List ℕ) → rest ≡ drop taken bytes → IsPiece end rest piece after
    → after ≡ drop (taken + length piece) bytes
after_more end taken bytes rest piece after is found =
    sym (drop_at piece after (length piece) refl) ∙ ap (drop (length piece)) (sym found.whole ∙ is) ∙ drop-drop (length piece) taken bytes

pub loop-init : goal.loop-init
loop-init g c = record {
  within = omega arith;
  rest = refl;
  fed = took_none g.S.DocumentSink.adds g.S.DocumentSink.fails g.met.S.DocumentSink.adds_none g.met.S.DocumentSink.adds_more c.args.framing c.args.end c.args.sink.now;
}

pub loop-preserved : goal.loop-preserved
loop-preserved g c =
    let found = c.in-Some.ensures in
    let inv = c.loop.invariant in
    let one = subst (λ d. g.S.DocumentSink.adds c.loop.sink (d ∷ []) c.take.new.self) c.document_in.ensures c.in_ok-take.ensures.taken in
    record {
      within = within_more c.args.end c.loop.taken c.args.bytes.now c.loop.rest.now c.in-Some.piece.now c.in-Some.after.now inv.within inv.rest found;
      rest = after_more c.args.end c.loop.taken c.args.bytes.now c.loop.rest.now c.in-Some.piece.now c.in-Some.after.now inv.rest found;
      fed = subst (λ l. TakesPieces g.S.DocumentSink.adds c.args.framing c.args.end l c.args.sink.now c.take.new.self)
          (sym (taken_more c.args.end c.loop.taken c.args.bytes.now c.loop.rest.now c.in-Some.piece.now c.in-Some.after.now inv.within inv.rest found))
          (took_more g.S.DocumentSink.adds g.S.DocumentSink.fails g.met.S.DocumentSink.adds_none g.met.S.DocumentSink.adds_more
          c.args.framing c.args.end (take c.loop.taken c.args.bytes.now) c.loop.rest.now c.in-Some.piece.now c.in-Some.after.now c.args.sink.now c.loop.sink c.take.new.self inv.fed found one);
    }

pub returns-in_err-take-clause-ended : goal.returns-in_err-take-clause-ended
returns-in_err-take-clause-ended g c =
    let given = err_from_is_err_and c.from_residual.result c.from_residual.ensures.1 in
    let inv = c.loop.invariant in
    let bytes = c.args.bytes.now in
    rw given.1
    (failed_within g.S.DocumentSink.adds g.S.DocumentSink.fails g.met.S.DocumentSink.adds_none g.met.S.DocumentSink.adds_more
    c.args.framing c.args.end bytes (take c.loop.taken bytes) (drop c.loop.taken bytes) c.args.sink.now c.loop.sink c.take.new.self
    (sym (take-append-drop c.loop.taken bytes)) inv.fed c.in_err-take.ensures.failed)

pub returns-clause-fed : goal.returns-clause-fed
returns-clause-fed g c = c.loop.invariant.fed
