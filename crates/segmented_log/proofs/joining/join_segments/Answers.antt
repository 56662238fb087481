use Rattle.std.proofs.Common.{rules, ◌<◌, ◌^◌, List, length, map, sym, subst}
use Rattle.std.specs.Prelude.{All, IsTrue, IsErrOf}
use Rattle.std.specs.List.{Contains, flat_map}
use Rattle.store_folder.specs.Moments.{LeavesOnly}
use Rattle.store_folder.specs.Folder.{Look}
use Rattle.store_format.specs.Block.{Slot, damaged}
use Rattle.segmented_log.specs.declared.error.LogError.TheVariants.{Full, Damaged}
use Rattle.segmented_log.specs.Parts.{part_of}
use Rattle.segmented_log.specs.Log.{HasSegment}
use Rattle.segmented_log.specs.Settled.{AddsSegment}
use Rattle.segmented_log.specs.Causes.{HasTooLong}
use Rattle.segmented_log.proofs.CauseLemmas.{joins_of}
use Rattle.segmented_log.proofs.JoinLemmas.{come_of}
use Rattle.segmented_log.proofs.StoreLemmas.{same_segment}
use Rattle.segmented_log.proofs.joining.join_segments.Goals.{After-publish_joined, In_ok-publish_joined}
use Rattle.segmented_log.proofs.joining.join_segments.Goals as goal

-- the segment that is published
published : (g : _) (c : In_ok-publish_joined g) → IsTrue g.F.Folder.honest → All (λ s. HasSegment (g.F.Folder.seen c.args.folder.now) (part_of s.first s.reader)) c.args.segments.now
    → (d : Look) → g.F.Folder.may_leave c.publish_joined.new.folder d
    → HasSegment d (record { first = c.args.first; slots = flat_map (λ p. p.slots) (map (λ s. part_of s.first s.reader) c.args.segments.now) })
published g c h has =
    let F = g.F.Folder in
    subst (λ (l : List Slot). (d : Look) → F.may_leave c.publish_joined.new.folder d → HasSegment d (record { first = c.args.first; slots = l }))
    (c.in_ok-inputs.ensures.slots h has) (c.in_ok-publish_joined.ensures.published h (c.in_ok-inputs.ensures.honest h))

pub returns-in-Ok-clause-published : goal.returns-in-Ok-clause-published
returns-in-Ok-clause-published g c = λ h has. published g (goal.at.returns-in-Ok-clause-published g c).In_ok-publish_joined h has

pub returns-in-Ok-clause-segment : goal.returns-in-Ok-clause-segment
returns-in-Ok-clause-segment g c = λ h has.
    let F = g.F.Folder in
    let new = c.publish_joined.new.folder in
    same_segment c.stores_are_apart.ensures (F.seen new) _ _ c.in-Ok.ensures.first (c.in-Ok.ensures.found h)
    (published g (goal.at.returns-in-Ok-clause-segment g c).In_ok-publish_joined h has (F.seen new) (g.met.F.Folder.seen_may_be_left new h))

pub returns-in-Ok-clause-joined : goal.returns-in-Ok-clause-joined
returns-in-Ok-clause-joined g c = λ h.
    let inputs = c.in_ok-inputs.ensures in
    let merged = c.in_ok-publish_joined.ensures.cut h in
    record {
      parts = merged.are.parts;
      blocks = merged.blocks;
      came = come_of (g.F.Folder.seen c.args.folder.now) (map (λ s. s.first) c.args.segments.now) c.in_ok-inputs.inputs.items merged.are.parts
          (inputs.blocks h) inputs.whole (inputs.honest h) merged.are.came;
      cut = merged.are.cut;
      is = merged.is;
    }

-- what a crash leaves meanwhile
moments : (g : _) (c : After-publish_joined g) → IsTrue g.F.Folder.honest → All (λ s. HasSegment (g.F.Folder.seen c.args.folder.now) (part_of s.first s.reader)) c.args.segments.now
    → LeavesOnly g.F.Folder.moment g.F.Folder.left_since c.args.folder.now c.publish_joined.new.folder (AddsSegment (g.F.Folder.may_leave c.args.folder.now)
    (record { first = c.args.first; slots = flat_map (λ p. p.slots) (map (λ s. part_of s.first s.reader) c.args.segments.now) }))
moments g c h has =
    let F = g.F.Folder in
    subst (λ (l : List Slot). LeavesOnly F.moment F.left_since c.args.folder.now c.publish_joined.new.folder (AddsSegment (F.may_leave c.args.folder.now) (record { first = c.args.first; slots = l })))
    (c.in_ok-inputs.ensures.slots h has) (c.publish_joined.ensures.any_moment h (c.in_ok-inputs.ensures.honest h))

pub returns-in-Ok-clause-any_moment : goal.returns-in-Ok-clause-any_moment
returns-in-Ok-clause-any_moment g c = λ h has. moments g (goal.at.returns-in-Ok-clause-any_moment g c).After-publish_joined h has

pub returns-in-Err-clause-any_moment : goal.returns-in-Err-clause-any_moment
returns-in-Err-clause-any_moment g c = λ h has. moments g (goal.at.returns-in-Err-clause-any_moment g c).After-publish_joined h has

pub returns-in-Err-clause-kind : goal.returns-in-Err-clause-kind
returns-in-Err-clause-kind g c = joins_of c.reopen_error.result c.reopen_error.ensures.kind

pub returns-in_err-publish_joined-clause-damaged : goal.returns-in_err-publish_joined-clause-damaged
returns-in_err-publish_joined-clause-damaged g c = λ h has is.
    let refused : IsErrOf c.publish_joined.result Damaged = search rules in
    subst (λ (l : List Slot). Contains l damaged) (c.in_ok-inputs.ensures.slots h has) (c.publish_joined.ensures.damaged (c.in_ok-inputs.ensures.honest h) refused)

pub returns-in_err-publish_joined-clause-full : goal.returns-in_err-publish_joined-clause-full
returns-in_err-publish_joined-clause-full g c = λ h has few is.
    let refused : IsErrOf c.publish_joined.result Full = search rules in
    let same = c.in_ok-inputs.ensures.slots h has in
    subst HasTooLong same
    (c.publish_joined.ensures.full (c.in_ok-inputs.ensures.honest h) (subst (λ (l : List Slot). length l < 2 ^ 32) (sym same) few) refused)
