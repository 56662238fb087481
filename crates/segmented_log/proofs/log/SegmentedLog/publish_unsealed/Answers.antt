use Rattle.std.proofs.Common.{rules, ◌⊎◌, inl, inr, ⊎_elim, ◌≡◌, ◌+◌, ◌-◌, ◌<◌, ◌++◌, ◌∷◌, List, [], length, take, drop, map, None, refl, ◌∙◌, ap, subst, sym, arith}
use Rattle.std.specs.Prelude.{All, IsTrue, IsErrOf}
use Rattle.store_base.specs.Counts.{HasRisen}
use Rattle.std.specs.Bool.{OnFalse}
use Rattle.std.proofs.lemmas.Bool.{OnFalse_at, OnFalse_from}
use Rattle.std.proofs.lemmas.List.{take_rest, map_push}
use Rattle.std.proofs.lemmas.List.Elements.{All-drop, All-push, All-same}
use Rattle.store_folder.specs.Moments.{LeavesOnly}
use Rattle.store_folder.proofs.Steps.{weaker}
use Rattle.store_folder.specs.Folder.{Look, ElsewhereOfBoth}
use Rattle.store_folder.specs.Publishing.{part}
use Rattle.log_tail.specs.declared.batches.Place.{Place}
use Rattle.log_tail.specs.Place.{contents, EndsBy}
use Rattle.std.specs.Result.{IsErrAnd}
use Rattle.segmented_log.specs.Compacting.{AreNext}
use Rattle.segmented_log.specs.Parts.{Part, part_of, joined, log_slots}
use Rattle.segmented_log.specs.Log.{HasSegment, IsLog}
use Rattle.segmented_log.specs.Settled.{part_at, AddsSegment, IsSettledTail, IsSettledFolder}
use Rattle.segmented_log.specs.declared.error.LogError.TheVariants.{Full}
use Rattle.segmented_log.specs.Causes.{HasNoRoom, HasNoRoomForLast, HasNewSegment, KeepsOthers, IsFailure}
use Rattle.segmented_log.proofs.CauseLemmas.{none_sealed}
use Rattle.segmented_log.specs.Sealing.{AddsPacked}
use Rattle.segmented_log.proofs.FrameLemmas.{keeps_all, keeps_new}
use Rattle.segmented_log.proofs.PackLemmas.{packs_none, packs_new}
use Rattle.segmented_log.proofs.SyncLemmas.{log_stays}
use Rattle.segmented_log.proofs.SegmentLemmas.{part_is, settled_segment, segment_log, slots_segment, folder_segment}
use Rattle.segmented_log.specs.Names.{segment_name, tail_name}
use Rattle.segmented_log.proofs.NameLemmas.{beside_no_tail, segment_no_tail}
use Rattle.segmented_log.proofs.log.SegmentedLog.publish_unsealed.Goals.{After-deref}
use Rattle.segmented_log.proofs.StepLemmas.{next_sealed}
use Rattle.segmented_log.proofs.log.SegmentedLog.publish_unsealed.Goals as goal

pub returns-then-self-end-clause-any_moment : goal.returns-then-self-end-clause-any_moment
returns-then-self-end-clause-any_moment g c = λ h.
    let settled = (OnFalse_at (ap (λ v. v.is_broken) c.self.view_is ∙ c.requires.works) c.self.invariant).1 h in
    subst (λ v. LeavesOnly g.F.Folder.moment g.F.Folder.left_since v.folder v.folder (IsLog v.first v.slots)) c.self.view_is
    (log_stays _ _ _ _ _ _ _ _ _ _ settled.0 c.self.inside.folder (g.met.F.Folder.only_now c.self.inside.folder))

-- what the log knows before the segment is added
known_is : (g : _) (c : After-deref g)
    → IsSettledTail c.self.inside.sealed c.self.inside.tail_first c.self.inside.next c.self.inside.tail.bytes c.self.inside.places.items c.self.inside.tail.pending
    × (IsTrue g.F.Folder.honest → IsSettledFolder (g.F.Folder.may_hold c.self.inside.folder) (g.F.Folder.may_leave c.self.inside.folder) (g.F.Folder.entry_kept c.self.inside.folder)
    (g.F.Folder.trusted c.self.inside.folder)
    c.self.inside.first c.self.inside.sealed (map (λ x. part_of x.first x.reader) c.self.inside.segments.items) c.self.inside.tail.bytes
    × All (λ x. IsTrue x.reader.file.honest) c.self.inside.segments.items
    × OnFalse c.self.inside.may_overlap (AreNext c.self.inside.first (map (λ x. part_of x.first x.reader) c.self.inside.segments.items)))
known_is g c = OnFalse_at (ap (λ v. v.is_broken) c.self.view_is ∙ c.requires.works) c.self.invariant

-- the places of the records that no segment has
abbrev rest : (g : _) → After-deref g → List Place
rest g c =
    let from = c.self.inside.sealed - c.self.inside.tail_first in
    take (length c.deref.result.now - from) (drop from c.deref.result.now)

rest_is : (g : _) (c : After-deref g) → rest g c ≡ drop (c.self.inside.sealed - c.self.inside.tail_first) c.self.inside.places.items
rest_is g c =
    let from = c.self.inside.sealed - c.self.inside.tail_first in
    take_rest c.deref.result.now from ∙ ap (λ l. drop from l) c.deref.ensures.value

end_is : (g : _) (c : After-deref g) → c.self.inside.tail_first + c.len.result ≡ c.self.inside.tail_first + length c.self.inside.places.items
end_is g c = omega arith

more_is : (g : _) (c : After-deref g) → c.self.inside.sealed < c.self.inside.tail_first + c.len.result
more_is g c = omega (arith, (known_is g c).0.high, end_is g c, c.if-self-end.false)

-- while the segment is added, each moment has the same log
same_log : (g : _) (c : After-deref g) (new : _) → IsTrue g.F.Folder.honest
    → LeavesOnly g.F.Folder.moment g.F.Folder.left_since c.self.inside.folder new
    (AddsSegment (g.F.Folder.may_leave c.self.inside.folder) (part_at c.self.inside.sealed c.bytes.result.now (rest g c)))
    → LeavesOnly g.F.Folder.moment g.F.Folder.left_since c.args.self.now.folder new (IsLog c.args.self.now.first c.args.self.now.slots)
same_log g c new h adding =
    let F = g.F.Folder in
    let log = c.self.inside in
    let settled = ((known_is g c).1 h).0 in
    subst (λ v. LeavesOnly F.moment F.left_since v.folder new (IsLog v.first v.slots)) c.self.view_is
    (weaker F.moment F.left_since log.folder new _ _
    (λ l adds. segment_log _ _ _ _ _ _ (known_is g c).0 _ _ (end_is g c) (more_is g c) refl log.first (map (λ x. part_of x.first x.reader) log.segments.items) settled.parts settled.sealed_is
    (rest g c) (rest_is g c)
    (F.may_leave log.folder) (λ d left. settled.on_disk.outcomes d left) l
    (subst (λ t. AddsSegment (F.may_leave log.folder) (part_at log.sealed t (rest g c)) l) c.bytes.ensures adds)) adding)

-- the segment that is added was not there
none_is : (g : _) (c : After-deref g) → IsTrue g.F.Folder.honest → g.F.Folder.seen c.self.inside.folder (segment_name c.self.inside.sealed) ≡ None
none_is g c h =
    let log = c.self.inside in
    let settled = ((known_is g c).1 h).0 in
    none_sealed log.first log.sealed (map (λ x. part_of x.first x.reader) log.segments.items) log.tail.bytes (g.F.Folder.seen log.folder) settled.parts settled.sealed_is
    (settled.on_disk.outcomes (g.F.Folder.seen log.folder) (g.met.F.Folder.seen_may_be_left log.folder h))

-- and no other file changes
others_stay : (g : _) (c : After-deref g) (new : _) → IsTrue g.F.Folder.honest
    → ElsewhereOfBoth (segment_name c.self.inside.sealed ++ part) (segment_name c.self.inside.sealed) (g.F.Folder.seen c.self.inside.folder) (g.F.Folder.seen new)
    → KeepsOthers (g.F.Folder.seen c.args.self.now.folder) (g.F.Folder.seen new)
others_stay g c new h elsewhere =
    let F = g.F.Folder in
    subst (λ v. KeepsOthers (F.seen v.folder) (F.seen new)) c.self.view_is (keeps_new c.self.inside.sealed (F.seen c.self.inside.folder) (F.seen new) (none_is g c h) elsewhere)

pub returns-then-self-end-clause-files : goal.returns-then-self-end-clause-files
returns-then-self-end-clause-files g c = λ h. keeps_all _

pub returns-in_err-segment-clause-files : goal.returns-in_err-segment-clause-files
returns-in_err-segment-clause-files g c = λ h.
    others_stay g (goal.at.returns-in_err-segment-clause-files g c).After-deref c.add_segment.new.folder h (c.add_segment.ensures.elsewhere h)

pub returns-in_err-push-clause-files : goal.returns-in_err-push-clause-files
returns-in_err-push-clause-files g c = λ h.
    others_stay g (goal.at.returns-in_err-push-clause-files g c).After-deref c.add_segment.new.folder h (c.add_segment.ensures.elsewhere h)

pub returns-clause-files : goal.returns-clause-files
returns-clause-files g c = λ h. others_stay g (goal.at.returns-clause-files g c).After-deref c.add_segment.new.folder h (c.add_segment.ensures.elsewhere h)

pub returns-then-self-end-clause-packed : goal.returns-then-self-end-clause-packed
returns-then-self-end-clause-packed g c = λ h. packs_none (g.F.Folder.seen c.args.self.now.folder)

pub returns-clause-packed : goal.returns-clause-packed
returns-clause-packed g c = λ h.
    let F = g.F.Folder in
    let new = c.add_segment.new.folder in
    subst (λ v. AddsPacked (F.seen v.folder) (F.seen new)) c.self.view_is
    (packs_new c.self.inside.sealed (F.seen c.self.inside.folder) (F.seen new) (c.add_segment.ensures.elsewhere h) (c.in_ok-segment.ensures.packed h))

pub add_segment-requires : goal.add_segment-requires
add_segment-requires g c =
    let here = (goal.at.add_segment-requires g c).After-deref in
    let log = c.self.inside in
    let within : All (EndsBy (length log.tail.bytes)) (rest g here) =
    All-same (EndsBy (length log.tail.bytes)) (rest g here) _ (rest_is g here) (All-drop (EndsBy (length log.tail.bytes)) (log.sealed - log.tail_first) log.places.items (known_is g here).0.within) in
    record { within = subst (λ t. All (EndsBy (length t)) (rest g here)) (sym c.bytes.ensures) within }

pub returns-in_err-segment-clause-any_moment : goal.returns-in_err-segment-clause-any_moment
returns-in_err-segment-clause-any_moment g c = λ h.
    same_log g (goal.at.returns-in_err-segment-clause-any_moment g c).After-deref c.add_segment.new.folder h (c.add_segment.ensures.any_moment h)

pub returns-in_err-push-clause-any_moment : goal.returns-in_err-push-clause-any_moment
returns-in_err-push-clause-any_moment g c = λ h.
    same_log g (goal.at.returns-in_err-push-clause-any_moment g c).After-deref c.add_segment.new.folder h (c.add_segment.ensures.any_moment h)

pub returns-clause-any_moment : goal.returns-clause-any_moment
returns-clause-any_moment g c = λ h.
    same_log g (goal.at.returns-clause-any_moment g c).After-deref c.add_segment.new.folder h (c.add_segment.ensures.any_moment h)

pub returns-clause-slots : goal.returns-clause-slots
returns-clause-slots g c = λ h.
    let here = (goal.at.returns-clause-slots g c).After-deref in
    let log = c.self.inside in
    let settled = ((known_is g here).1 h).0 in
    let segment = c.in_ok-segment.segment in
    let part_is = c.in_ok-segment.ensures.segment h ∙ ap (λ t. part_at log.sealed t (rest g here)) c.bytes.ensures in
    let grown = ap (λ l. map (λ x. part_of x.first x.reader) l) c.in_ok-push.ensures.items ∙ map_push (λ x. part_of x.first x.reader) log.segments.items segment in
    ap (λ l. log_slots log.first l log.tail.bytes) grown
    ∙ slots_segment _ _ _ _ _ _ (known_is g here).0 _ _ (end_is g here) (more_is g here) refl log.first (map (λ x. part_of x.first x.reader) log.segments.items) settled.parts settled.sealed_is
    (rest g here) (rest_is g here)
    (part_of segment.first segment.reader) part_is
    ∙ ap (λ v. v.slots) c.self.view_is

pub invariant_of-self-2 : goal.invariant_of-self-2
invariant_of-self-2 g c =
    let here = (goal.at.invariant_of-self-2 g c).After-deref in
    let F = g.F.Folder in
    let log = c.self.inside in
    let known = known_is g here in
    let new = c.add_segment.new.folder in
    let segment = c.in_ok-segment.segment in
    let grown = ap (λ l. map (λ x. part_of x.first x.reader) l) c.in_ok-push.ensures.items ∙ map_push (λ x. part_of x.first x.reader) log.segments.items segment in (
      settled_segment _ _ _ _ _ _ known.0 _ _ (end_is g here) (more_is g here) refl,
      λ h.
          let part_is = c.in_ok-segment.ensures.segment h ∙ ap (λ t. part_at log.sealed t (rest g here)) c.bytes.ensures in
          let published : (l : Look) → F.may_leave new l → HasSegment l (part_at log.sealed log.tail.bytes (rest g here)) =
          λ l left. subst (λ t. HasSegment l (part_at log.sealed t (rest g here))) c.bytes.ensures (c.in_ok-segment.ensures.published h l left) in (
            subst (λ l. IsSettledFolder (F.may_hold new) (F.may_leave new) (F.entry_kept new) (F.trusted new) log.first (log.tail_first + c.len.result) l log.tail.bytes) (sym grown)
                (folder_segment _ _ _ _ _ _ known.0 _ _ (end_is g here) (more_is g here) refl log.first (map (λ x. part_of x.first x.reader) log.segments.items) (known.1 h).0.parts
                (known.1 h).0.sealed_is
                (rest g here) (rest_is g here)
                (part_of segment.first segment.reader) part_is
                (F.may_hold log.folder) (F.may_hold new) (F.may_leave log.folder) (F.may_leave new) (F.entry_kept log.folder) (F.entry_kept new) (F.trusted log.folder) (F.trusted new)
                (known.1 h).0.on_disk published
                (c.add_segment.ensures.files h) (c.in_ok-segment.ensures.kept h) (c.add_segment.ensures.trust h tail_name (beside_no_tail _) (λ e. segment_no_tail _ (sym e)))
                (c.add_segment.ensures.crash h)),
            All-same (λ x. IsTrue x.reader.file.honest) c.push.new.self.items (log.segments.items ++ segment ∷ []) c.in_ok-push.ensures.items
                (All-push (λ x. IsTrue x.reader.file.honest) log.segments.items segment (known.1 h).1 (c.in_ok-segment.ensures.honest h)),
            OnFalse_from log.may_overlap _ (λ none. next_sealed log.first (map (λ x. part_of x.first x.reader) log.segments.items) _ (part_of segment.first segment.reader) grown
                (OnFalse_at none (known.1 h).2) (ap (λ (p : Part). p.first) part_is ∙ (known.1 h).0.sealed_is)),
          ),
    )

pub returns-in_err-segment-clause-failed : goal.returns-in_err-segment-clause-failed
returns-in_err-segment-clause-failed g c = λ h is.
    let here = (goal.at.returns-in_err-segment-clause-failed g c).After-deref in
    let F = g.F.Folder in
    let log = c.self.inside in
    let new = c.add_segment.new.folder in
    let failed : IsErrAnd c.add_segment.result IsFailure = search rules in
    subst (λ v. HasRisen (F.failures v.folder) (F.failures new) ⊎ HasNewSegment (F.seen v.folder) (F.seen new)) c.self.view_is
    (⊎_elim (λ risen. inl risen) (λ some. inr (log.sealed, none_is g here h, some)) (c.add_segment.ensures.failed h failed))

pub returns-in_err-segment-clause-full : goal.returns-in_err-segment-clause-full
returns-in_err-segment-clause-full g c = λ h is.
    let here = (goal.at.returns-in_err-segment-clause-full g c).After-deref in
    let log = c.self.inside in
    let parts = map (λ x. part_of x.first x.reader) log.segments.items in
    let settled = ((known_is g here).1 h).0 in
    let failed : IsErrOf c.add_segment.result Full = search rules in
    let last = part_is _ _ _ _ _ _ (known_is g here).0 _ _ (end_is g here) (more_is g here) refl log.first parts settled.parts settled.sealed_is (rest g here) (rest_is g here) in
    subst (λ v. HasNoRoomForLast v.slots) c.self.view_is (
      joined log.first parts,
      contents log.tail.bytes (rest g here),
      ap (λ (p : Part). joined log.first parts ++ p.slots) (sym last),
      subst (λ t. HasNoRoom (contents t (rest g here))) c.bytes.ensures (c.add_segment.ensures.full failed),
    )
