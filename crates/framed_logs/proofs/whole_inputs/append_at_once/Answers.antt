use Rattle.std.proofs.Common.{◌≡◌, false, length, map, sym, ap, subst, ◌∙◌}
use Rattle.std.proofs.lemmas.Result.{err_from_is_err_and}
use Rattle.document_framing.specs.Feeding.{all_documents}
use Rattle.document_framing.specs.Inputs.{inputs_of}
use Rattle.store_folder.specs.Moments.{LeavesOnly}
use Rattle.framed_logs.proofs.FeedLemmas.{after_broken, all_stops, counted, ends_feed, feed_puts, feed_stops}
use Rattle.framed_logs.proofs.whole_inputs.append_at_once.Goals as goal

pub returns-in_err-feed_inputs-clause-ended : goal.returns-in_err-feed_inputs-clause-ended
returns-in_err-feed_inputs-clause-ended g c honest =
    let leaves = LeavesOnly g.F.Folder.moment g.F.Folder.left_since in
    let known = all_documents c.args.framing (inputs_of (g.I.InputFiles.holds c.args.files.now) (map (λ path. path.now) c.args.paths.now)) in
    let old = c.args.appending.now in let fed = c.feed_inputs.new.sink in let error = c.in_err-feed_inputs.field-0.0 in
    let given = err_from_is_err_and c.from_residual.result c.from_residual.ensures.1 in
    rw (given.1, given.2) (ends_feed leaves old.policy known old.log.value fed.log.value old.numbers fed.numbers error
    (feed_stops leaves (λ t. t.policy) (λ t. t.log.value) (λ t. t.numbers) honest known old fed error c.in_err-feed_inputs.ensures.ended))

pub returns-in_err-check_count-clause-ended : goal.returns-in_err-check_count-clause-ended
returns-in_err-check_count-clause-ended g c honest =
    let leaves = LeavesOnly g.F.Folder.moment g.F.Folder.left_since in
    let known = all_documents c.args.framing (inputs_of (g.I.InputFiles.holds c.args.files.now) (map (λ path. path.now) c.args.paths.now)) in
    let old = c.args.appending.now in let fed = c.feed_inputs.new.sink in
    let given = err_from_is_err_and c.from_residual-in_err-check_count.result c.from_residual-in_err-check_count.ensures.1 in
    rw (given.1, given.2) (all_stops leaves (λ t. t.policy) (λ t. t.log.value) (λ t. t.numbers) honest known old fed c.in_ok-feed_inputs.ensures.fed)

pub returns-in_err-sync-clause-ended : goal.returns-in_err-sync-clause-ended
returns-in_err-sync-clause-ended g c honest =
    let leaves = LeavesOnly g.F.Folder.moment g.F.Folder.left_since in
    let known = all_documents c.args.framing (inputs_of (g.I.InputFiles.holds c.args.files.now) (map (λ path. path.now) c.args.paths.now)) in
    let old = c.args.appending.now in let fed = c.feed_inputs.new.sink in let new = c.sync.new.self in
    let given = err_from_is_err_and c.from_residual-in_err-sync.result c.from_residual-in_err-sync.ensures.1 in
    rw (given.1, given.2) (after_broken leaves (λ t. t.policy) (λ t. t.log.value) (λ t. t.numbers) honest known old fed new
    (all_stops leaves (λ t. t.policy) (λ t. t.log.value) (λ t. t.numbers) honest known old fed c.in_ok-feed_inputs.ensures.fed)
    (c.in_err-sync.ensures.failed honest))

pub returns-clause-put : goal.returns-clause-put
returns-clause-put g c honest =
    let leaves = LeavesOnly g.F.Folder.moment g.F.Folder.left_since in
    let known = all_documents c.args.framing (inputs_of (g.I.InputFiles.holds c.args.files.now) (map (λ path. path.now) c.args.paths.now)) in
    feed_puts leaves (λ t. t.policy) (λ t. t.log.value) (λ t. t.numbers) honest known c.args.appending.now c.feed_inputs.new.sink c.sync.new.self
    c.in_ok-feed_inputs.ensures.fed (c.in_ok-sync.ensures.synced honest)

pub returns-clause-counted : goal.returns-clause-counted
returns-clause-counted g c honest =
    let old = c.args.appending.now in let fed = c.feed_inputs.new.sink in let new = c.sync.new.self in
    let sync = c.in_ok-sync.ensures.synced honest in let feed = c.in_ok-feed_inputs.ensures.fed in
    counted old.policy c.args.expected feed.documents c.pending.result old.log.value fed.log.value new.log.value
    old.numbers fed.numbers new.numbers c.requires (feed.added.1 honest) sync
    (c.pending.ensures (subst (λ l. l.is_broken ≡ false) (sym c.deref.ensures) sync.worked)
    ∙ ap (λ l. length l.pending) c.deref.ensures) c.in_ok-check_count.ensures.counted
