use Rattle.std.proofs.Common.{ℕ, ◌+◌, List, map, drop, sym, subst}
use Rattle.std.proofs.lemmas.Result.{err_from_is_err_and}
use Rattle.document_framing.specs.Feeding.{Feeds, EndsFeed, all_documents}
use Rattle.document_framing.specs.Inputs.{inputs_of}
use Rattle.document_framing.proofs.FeedLemmas.{ended_after, fed_more, paths_from}
use Rattle.document_framing.proofs.inputs.feed_inputs.Goals as goal

pub loop-place-preserved : goal.loop-place-preserved
loop-place-preserved g c =
    let left = map (λ path. path.now) (drop (c.loop-place.place + 1) c.args.paths.now) in
    let known = λ (paths : List (List ℕ)). all_documents c.args.framing (inputs_of (g.F.InputFiles.holds c.loop-place.files) paths) in
    let next = all_documents c.args.framing (inputs_of (g.F.InputFiles.holds c.feed_input.new.files) left) in
    fed_more g.S.DocumentSink.adds g.S.DocumentSink.fails g.met.S.DocumentSink.adds_none g.met.S.DocumentSink.adds_more
    _ _ _ c.args.sink.now c.loop-place.sink c.feed_input.new.sink c.loop-place.invariant
    (subst (λ paths. Feeds g.S.DocumentSink.adds (known paths) next c.loop-place.sink c.feed_input.new.sink)
    (sym (paths_from c.args.paths.now c.loop-place.place c.loop-place-test.true)) (c.in_ok-feed_input.ensures.fed left))

pub returns-in_err-feed_input-clause-ended : goal.returns-in_err-feed_input-clause-ended
returns-in_err-feed_input-clause-ended g c =
    let left = map (λ path. path.now) (drop (c.loop-place.place + 1) c.args.paths.now) in
    let known = λ (paths : List (List ℕ)). all_documents c.args.framing (inputs_of (g.F.InputFiles.holds c.loop-place.files) paths) in
    let error = c.in_err-feed_input.field-0.0 in
    let given = err_from_is_err_and c.from_residual.result c.from_residual.ensures.1 in
    rw (given.1, given.2)
    (ended_after g.S.DocumentSink.adds g.S.DocumentSink.fails g.met.S.DocumentSink.adds_none g.met.S.DocumentSink.adds_more
    _ _ c.args.sink.now c.loop-place.sink c.feed_input.new.sink error c.loop-place.invariant
    (subst (λ paths. EndsFeed g.S.DocumentSink.adds g.S.DocumentSink.fails (known paths) c.loop-place.sink c.feed_input.new.sink error)
    (sym (paths_from c.args.paths.now c.loop-place.place c.loop-place-test.true)) (c.in_err-feed_input.ensures.ended left)))
