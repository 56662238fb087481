use Rattle.std.proofs.Common.{sym, ap, ◌∙◌}
use Rattle.log_tail.specs.Place.{contents}
use Rattle.segmented_log.specs.Settled.{part_at}
use Rattle.segmented_log.proofs.FilledLemmas.{filled_run}
use Rattle.segmented_log.proofs.segment.publish_segment.Goals as goal

pub returns-in-Ok-clause-any_moment : goal.returns-in-Ok-clause-any_moment
returns-in-Ok-clause-any_moment g c = λ h.
    let F = g.F.Folder in
    filled_run (part_at c.args.first c.args.tail.now c.args.places.now) _ _ (λ slots is. is) _ F.may_leave F.moment F.left_since c.args.folder.now c.publish_store.new.folder _
    (c.as_str.ensures.value ∙ c.in_ok-name.ensures) (c.publish_store.ensures.any_moment h)

pub returns-in-Ok-clause-packed : goal.returns-in-Ok-clause-packed
returns-in-Ok-clause-packed g c = λ h.
    let stored = c.in-Ok.ensures.stored in
    let named = c.as_str.ensures.value ∙ c.in_ok-name.ensures in (
      stored.0,
      record { documents = contents c.args.tail.now c.args.places.now; blocks = stored.1.0.blocks; cut = stored.1.0.cut_is; is_file = stored.1.0.is_file },
      ap (g.F.Folder.seen c.publish_store.new.folder) (sym named) ∙ stored.3 h,
    )
