use Rattle.std.proofs.Common.{map}
use Rattle.std.proofs.lemmas.Result.{err_from_is_err_and}
use Rattle.document_framing.specs.Feeding.{all_documents}
use Rattle.document_framing.specs.Inputs.{inputs_of}
use Rattle.store_folder.specs.Moments.{LeavesOnly}
use Rattle.framed_logs.proofs.FeedLemmas.{after_broken, after_synced, all_stops, ends_feed, feed_puts, feed_stops, on_either}
use Rattle.framed_logs.proofs.whole_inputs.append_in_batches.Goals as goal

pub returns-in_err-fed-clause-ended : goal.returns-in_err-fed-clause-ended
returns-in_err-fed-clause-ended g c honest =
    let leaves = LeavesOnly g.F.Folder.moment g.F.Folder.left_since in
    let known = all_documents c.args.framing (inputs_of (g.I.InputFiles.holds c.args.files.now) (map (λ path. path.now) c.args.paths.now)) in
    let old = c.args.appending.now in let fed = c.feed_inputs-fed.new.sink in let new = c.sync-synced.new.self in let error = c.in_err-fed.field-0.0 in
    let given = err_from_is_err_and c.from_residual.result c.from_residual.ensures.1 in
    let stops = feed_stops leaves (λ t. t.policy) (λ t. t.log.value) (λ t. t.numbers) honest known old fed error c.in_err-fed.ensures.ended in
    let sync = c.sync-synced.ensures in
    rw (given.1, given.2) (ends_feed leaves old.policy known old.log.value new.log.value old.numbers new.numbers error
    (on_either c.sync-synced.result _ _ _ (sync.synced honest) (sync.failed honest)
    (after_synced leaves (λ t. t.policy) (λ t. t.log.value) (λ t. t.numbers) honest known old fed new c.requires stops)
    (after_broken leaves (λ t. t.policy) (λ t. t.log.value) (λ t. t.numbers) honest known old fed new stops)))

pub returns-in_err-synced-clause-ended : goal.returns-in_err-synced-clause-ended
returns-in_err-synced-clause-ended g c honest =
    let leaves = LeavesOnly g.F.Folder.moment g.F.Folder.left_since in
    let known = all_documents c.args.framing (inputs_of (g.I.InputFiles.holds c.args.files.now) (map (λ path. path.now) c.args.paths.now)) in
    let old = c.args.appending.now in let fed = c.feed_inputs-fed.new.sink in let new = c.sync-synced.new.self in
    let given = err_from_is_err_and c.from_residual-in_err-synced.result c.from_residual-in_err-synced.ensures.1 in
    rw (given.1, given.2) (after_broken leaves (λ t. t.policy) (λ t. t.log.value) (λ t. t.numbers) honest known old fed new
    (all_stops leaves (λ t. t.policy) (λ t. t.log.value) (λ t. t.numbers) honest known old fed c.in_ok-fed.ensures.fed)
    (c.in_err-synced.ensures.failed honest))

pub returns-clause-put : goal.returns-clause-put
returns-clause-put g c honest =
    let leaves = LeavesOnly g.F.Folder.moment g.F.Folder.left_since in
    let known = all_documents c.args.framing (inputs_of (g.I.InputFiles.holds c.args.files.now) (map (λ path. path.now) c.args.paths.now)) in
    feed_puts leaves (λ t. t.policy) (λ t. t.log.value) (λ t. t.numbers) honest known c.args.appending.now c.feed_inputs-fed.new.sink c.sync-synced.new.self
    c.in_ok-fed.ensures.fed (c.in_ok-synced.ensures.synced honest)
