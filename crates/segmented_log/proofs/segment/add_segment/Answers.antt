use Rattle.std.proofs.Common.{inr, refl, sym, subst}
use Rattle.std.specs.Prelude.{IsSome}
use Rattle.segmented_log.proofs.StoreLemmas.{same_segment}
use Rattle.segmented_log.proofs.segment.add_segment.Goals as goal

pub returns-in-Ok-clause-segment : goal.returns-in-Ok-clause-segment
returns-in-Ok-clause-segment g c = λ h.
    let F = g.F.Folder in
    let new = c.publish_segment.new.folder in
    same_segment c.stores_are_apart.ensures (F.seen new) _ _ c.in-Ok.ensures.first (c.in-Ok.ensures.found h)
    (c.in_ok-publish_segment.ensures.published h (F.seen new) (g.met.F.Folder.seen_may_be_left new h))

pub returns-in-Err-clause-failed : goal.returns-in-Err-clause-failed
returns-in-Err-clause-failed g c = λ h is.
    let F = g.F.Folder in
    let new = c.publish_segment.new.folder in
    let has = c.in_ok-publish_segment.ensures.published h (F.seen new) (g.met.F.Folder.seen_may_be_left new h) in
    inr (subst IsSome (sym has.2) refl)
