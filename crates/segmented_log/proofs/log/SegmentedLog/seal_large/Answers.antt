use Rattle.std.proofs.Common.{◌∙◌, ap, subst}
use Rattle.std.proofs.lemmas.Bool.{OnFalse_at}
use Rattle.store_folder.specs.Moments.{LeavesOnly}
use Rattle.segmented_log.specs.Log.{IsLog}
use Rattle.segmented_log.proofs.FrameLemmas.{keeps_all}
use Rattle.segmented_log.proofs.PackLemmas.{packs_none}
use Rattle.segmented_log.proofs.SyncLemmas.{log_stays}
use Rattle.segmented_log.proofs.log.SegmentedLog.seal_large.Goals as goal

pub returns-then-len-self-clause-any_moment : goal.returns-then-len-self-clause-any_moment
returns-then-len-self-clause-any_moment g c = λ h.
    let settled = (OnFalse_at (ap (λ v. v.is_broken) c.self.view_is ∙ c.requires.works) c.self.invariant).1 h in
    subst (λ v. LeavesOnly g.F.Folder.moment g.F.Folder.left_since v.folder v.folder (IsLog v.first v.slots)) c.self.view_is
    (log_stays _ _ _ _ _ _ _ _ _ _ settled.0 c.self.inside.folder (g.met.F.Folder.only_now c.self.inside.folder))

pub returns-then-len-self-clause-files : goal.returns-then-len-self-clause-files
returns-then-len-self-clause-files g c = λ h. keeps_all _

pub returns-then-len-self-clause-packed : goal.returns-then-len-self-clause-packed
returns-then-len-self-clause-packed g c = λ h. packs_none (g.F.Folder.seen c.args.self.now.folder)
