use Rattle.std.proofs.Common.{◌≡◌, ⊎_elim, map, ap, ◌∙◌, subst}
use Rattle.std.specs.Prelude.{IsTrue}
use Rattle.std.specs.Bool.{OnFalse}
use Rattle.segmented_log.specs.Log.{KeepsLog}
use Rattle.segmented_log.specs.Parts.{part_of, log_slots}
use Rattle.segmented_log.specs.Compacting.{AreNext}
use Rattle.segmented_log.proofs.SyncLemmas.{log_on_disk}
use Rattle.segmented_log.proofs.UniqueLemmas.{same_log, not_blank}
use Rattle.segmented_log.proofs.log.SegmentedLog.open.Goals.{In-Ok, After-new}
use Rattle.segmented_log.proofs.log.SegmentedLog.open.Goals as goal

-- the log that is seen after the opening is the one that was seen before it
kept_log : (g : _) (c : In-Ok g) → IsTrue g.F.Folder.honest → KeepsLog (g.F.Folder.seen c.args.folder) (g.F.Folder.seen c.load.new.folder)
kept_log g c h =
    let new = c.load.new.folder in
    c.in-Ok.ensures.kept h (g.F.Folder.seen new) (g.met.F.Folder.seen_may_be_left new h)

-- the tail in memory is the one that was read
in_memory : (g : _) (c : After-new g) → log_slots c.in-Ok.parts.first (map (λ s. part_of s.first s.reader) c.in-Ok.parts.segments.items) c.new.result.bytes
    ≡ log_slots c.in-Ok.parts.first (map (λ s. part_of s.first s.reader) c.in-Ok.parts.segments.items) c.in-Ok.parts.tail.bytes.items
in_memory g c = ap (λ t. log_slots c.in-Ok.parts.first (map (λ s. part_of s.first s.reader) c.in-Ok.parts.segments.items) t) c.new.ensures.bytes

pub returns-in-Ok-clause-found : goal.returns-in-Ok-clause-found
returns-in-Ok-clause-found g c = λ h first all log.
    let F = g.F.Folder in
    let new = c.load.new.folder in
    let here = log_on_disk _ _ _ _ _ _ _ _ (c.in-Ok.ensures.folder h) (F.seen new) (g.met.F.Folder.seen_may_be_left new h) in
    let same = same_log c.stores_are_apart.ensures (F.seen new) _ first _ all here ((kept_log g (goal.at.returns-in-Ok-clause-found g c).In-Ok h).same first all log) in
    (same.0, in_memory g (goal.at.returns-in-Ok-clause-found g c).After-new ∙ same.1)

pub returns-in-Ok-clause-begun : goal.returns-in-Ok-clause-begun
returns-in-Ok-clause-begun g c = λ h blank.
    let F = g.F.Folder in
    let new = c.load.new.folder in
    let here = log_on_disk _ _ _ _ _ _ _ _ (c.in-Ok.ensures.folder h) (F.seen new) (g.met.F.Folder.seen_may_be_left new h) in
    ⊎_elim (λ none. absurd (not_blank (F.seen new) _ _ here none))
    (λ log. let same = same_log c.stores_are_apart.ensures (F.seen new) _ 0 _ _ here log in (same.0, in_memory g (goal.at.returns-in-Ok-clause-begun g c).After-new ∙ same.1))
    ((kept_log g (goal.at.returns-in-Ok-clause-begun g c).In-Ok h).begun blank)

pub invariant_of-result : goal.invariant_of-result
invariant_of-result g c =
    let next = subst (λ s. OnFalse c.may_overlap-may_overlap.result (AreNext c.in-Ok.parts.first (map (λ x. part_of x.first x.reader) s))) c.deref.ensures.value c.may_overlap-may_overlap.ensures in
    rw (c.new.ensures.bytes, c.new.ensures.none_pending) (c.in-Ok.ensures.settled, λ h. (c.in-Ok.ensures.folder h, c.in-Ok.ensures.honest h, next))
