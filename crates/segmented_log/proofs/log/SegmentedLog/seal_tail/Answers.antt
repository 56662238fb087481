use Rattle.std.proofs.Common.{inl, ◌∙◌, subst}
use Rattle.std.proofs.lemmas.Result.{on_ok_weaker}
use Rattle.store_folder.specs.Moments.{LeavesOnly}
use Rattle.store_folder.proofs.Steps.{joined}
use Rattle.store_base.proofs.ListLemmas.{risen_later}
use Rattle.segmented_log.specs.declared.error.LogError.TheVariants.{Full}
use Rattle.segmented_log.specs.Causes.{IsFault}
use Rattle.segmented_log.specs.Log.{IsLog}
use Rattle.segmented_log.proofs.CauseLemmas.{if_seals, never}
use Rattle.segmented_log.proofs.FrameLemmas.{keeps_before_tail}
use Rattle.segmented_log.proofs.PackLemmas.{packs_before_tail}
use Rattle.segmented_log.proofs.SyncLemmas.{always_ok}
use Rattle.segmented_log.proofs.log.SegmentedLog.seal_tail.Goals as goal

pub returns-clause-any_moment : goal.returns-clause-any_moment
returns-clause-any_moment g c = λ h.
    let F = g.F.Folder in
    let old = c.args.self.now in
    let mid = c.publish_unsealed.new.self in
    let new = c.empty_tail.new.self in
    joined F.moment F.left_since old.folder mid.folder new.folder (IsLog old.first old.slots) (c.publish_unsealed.ensures.any_moment h)
    (subst (λ n. LeavesOnly F.moment F.left_since mid.folder new.folder (IsLog n old.slots)) c.publish_unsealed.ensures.first
    (subst (λ a. LeavesOnly F.moment F.left_since mid.folder new.folder (IsLog mid.first a)) (c.in_ok-publish_unsealed.ensures.slots h) (c.empty_tail.ensures.any_moment h)))

pub returns-clause-files : goal.returns-clause-files
returns-clause-files g c = λ h. keeps_before_tail _ _ _ (c.publish_unsealed.ensures.files h) (c.empty_tail.ensures.elsewhere h)

pub returns-clause-packed : goal.returns-clause-packed
returns-clause-packed g c = λ h.
    let seen = g.F.Folder.seen in
    always_ok c.empty_tail.result
    (packs_before_tail (seen c.args.self.now.folder) (seen c.publish_unsealed.new.self.folder) (seen c.empty_tail.new.self.folder) (c.in_ok-publish_unsealed.ensures.packed h)
    (c.empty_tail.ensures.elsewhere h))

pub returns-clause-slots : goal.returns-clause-slots
returns-clause-slots g c = λ h.
    on_ok_weaker c.empty_tail.result (λ same. same ∙ c.in_ok-publish_unsealed.ensures.slots h) (c.empty_tail.ensures.slots h)

pub returns-clause-failed : goal.returns-clause-failed
returns-clause-failed g c = λ h is. inl (risen_later _ _ _ c.publish_unsealed.ensures.failures (c.empty_tail.ensures.failed is))

pub returns-clause-full : goal.returns-clause-full
returns-clause-full g c = λ h is. absurd (never IsFault Full (λ of. of) c.empty_tail.result c.empty_tail.ensures.kind is)

pub returns-clause-kind : goal.returns-clause-kind
returns-clause-kind g c = if_seals c.empty_tail.result c.empty_tail.ensures.kind
