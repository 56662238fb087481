use Rattle.std.proofs.Common.{◌<◌, inl, drop, map, refl, sym, ◌∙◌, ap, subst, arith}
use Rattle.std.specs.Prelude.{All, IsTrue}
use Rattle.std.specs.Bool.{OnFalse}
use Rattle.std.proofs.lemmas.Bool.{OnFalse_at, OnFalse_from}
use Rattle.std.proofs.lemmas.List.{drop-map}
use Rattle.std.proofs.lemmas.List.Elements.{All-drop, All-same}
use Rattle.store_folder.specs.Moments.{LeavesOnly}
use Rattle.store_folder.proofs.Steps.{weaker}
use Rattle.log_tail.specs.Tail.{first_of}
use Rattle.segmented_log.specs.Parts.{part_of, log_slots}
use Rattle.segmented_log.specs.Settled.{IsSettledTail, IsSettledFolder}
use Rattle.segmented_log.specs.Dropping.{CanGo, IsRest, DropsTo, LosesSegment, RemovesOnly, IsDropped}
use Rattle.segmented_log.proofs.SyncLemmas.{log_stays}
use Rattle.segmented_log.proofs.DropLemmas.{rest_itself, drops_none, dropped_rest, dropped_log, dropped_folder, dropped_names, dropped_later, some_can}
use Rattle.segmented_log.specs.Names.{tail_name}
use Rattle.segmented_log.proofs.NameLemmas.{segment_no_tail}
use Rattle.segmented_log.proofs.log.SegmentedLog.drop_first.Goals.{In-Some}
use Rattle.segmented_log.proofs.StepLemmas.{next_dropped}
use Rattle.segmented_log.specs.Compacting.{AreNext}
use Rattle.segmented_log.proofs.log.SegmentedLog.drop_first.Goals as goal

pub returns-in_default-clause-rest : goal.returns-in_default-clause-rest
returns-in_default-clause-rest g c = λ h. rest_itself c.args.self.now.first c.args.number c.args.self.now.slots

pub returns-in_default-clause-files : goal.returns-in_default-clause-files
returns-in_default-clause-files g c = λ h n. inl refl

pub returns-in_default-clause-any_moment : goal.returns-in_default-clause-any_moment
returns-in_default-clause-any_moment g c = λ h.
    let F = g.F.Folder in
    let log = c.self.inside in
    let settled = (OnFalse_at (ap (λ v. v.is_broken) c.self.view_is ∙ c.requires.works) c.self.invariant).1 h in
    subst (λ v. LeavesOnly F.moment F.left_since v.folder v.folder (DropsTo v.first v.slots c.args.number)) c.self.view_is
    (weaker F.moment F.left_since log.folder log.folder _ _ (λ l is. drops_none _ c.args.number _ l is) (log_stays _ _ _ _ _ _ _ _ _ _ settled.0 log.folder (g.met.F.Folder.only_now log.folder)))

pub returns-in_default-clause-stays : goal.returns-in_default-clause-stays
returns-in_default-clause-stays g c = λ h no.
    let F = g.F.Folder in
    let log = c.self.inside in
    let number = c.args.number in
    let known = OnFalse_at (ap (λ v. v.is_broken) c.self.view_is ∙ c.requires.works) c.self.invariant in
    let f = (known.1 h).0 in
    let segments = map (λ s. part_of s.first s.reader) log.segments.items in
    subst (λ v. IsDropped v.first number (F.seen v.folder)) c.self.view_is
    (record {
      segments = segments;
      tail = log.tail.bytes;
      parts = f.parts;
      holds = f.on_disk.outcomes (F.seen log.folder) (g.met.F.Folder.seen_may_be_left log.folder h);
      stays = λ next go. c.in_default.ensures.none next
          (subst (λ l. CanGo log.first number (map (λ s. part_of s.first s.reader) l) log.tail_first next) (sym c.deref.ensures.value)
          (subst (λ n. CanGo log.first number segments n next) (sym known.0.first_is) go));
    })

-- what the log knows before the segment is removed
known_is : (g : _) (c : In-Some g)
    → IsSettledTail c.self.inside.sealed c.self.inside.tail_first c.self.inside.next c.self.inside.tail.bytes c.self.inside.places.items c.self.inside.tail.pending
    × (IsTrue g.F.Folder.honest → IsSettledFolder (g.F.Folder.may_hold c.self.inside.folder) (g.F.Folder.may_leave c.self.inside.folder) (g.F.Folder.entry_kept c.self.inside.folder)
    (g.F.Folder.trusted c.self.inside.folder)
    c.self.inside.first c.self.inside.sealed (map (λ x. part_of x.first x.reader) c.self.inside.segments.items) c.self.inside.tail.bytes
    × All (λ x. IsTrue x.reader.file.honest) c.self.inside.segments.items
    × OnFalse c.self.inside.may_overlap (AreNext c.self.inside.first (map (λ x. part_of x.first x.reader) c.self.inside.segments.items)))
known_is g c = OnFalse_at (ap (λ v. v.is_broken) c.self.view_is ∙ c.requires.works) c.self.invariant

can_go : (g : _) (c : In-Some g) → CanGo c.self.inside.first c.args.number (map (λ x. part_of x.first x.reader) c.self.inside.segments.items) (first_of c.self.inside.tail.bytes) c.in-Some.next
can_go g c =
    let log = c.self.inside in
    subst (λ n. CanGo log.first c.args.number (map (λ x. part_of x.first x.reader) log.segments.items) n c.in-Some.next) (known_is g c).0.first_is
    (subst (λ l. CanGo log.first c.args.number (map (λ x. part_of x.first x.reader) l) log.tail_first c.in-Some.next) c.deref.ensures.value c.in-Some.ensures.some)

-- while the segment is removed, each moment has the log with it or without
dropping : (g : _) (c : In-Some g) (new : _) → IsTrue g.F.Folder.honest
    → LeavesOnly g.F.Folder.moment g.F.Folder.left_since c.self.inside.folder new (LosesSegment (g.F.Folder.may_leave c.self.inside.folder) c.self.inside.first)
    → LeavesOnly g.F.Folder.moment g.F.Folder.left_since c.args.self.now.folder new (DropsTo c.args.self.now.first c.args.self.now.slots c.args.number)
dropping g c new h losing =
    let F = g.F.Folder in
    let log = c.self.inside in
    let f = ((known_is g c).1 h).0 in
    subst (λ v. LeavesOnly F.moment F.left_since v.folder new (DropsTo v.first v.slots c.args.number)) c.self.view_is
    (weaker F.moment F.left_since log.folder new _ _
    (λ l loses. dropped_log log.first c.args.number c.in-Some.next (map (λ x. part_of x.first x.reader) log.segments.items) log.tail.bytes f.parts (can_go g c)
    (F.may_leave log.folder) (λ d left. f.on_disk.outcomes d left) l loses) losing)

pub returns-in_err-remove_segment-clause-any_moment : goal.returns-in_err-remove_segment-clause-any_moment
returns-in_err-remove_segment-clause-any_moment g c = λ h.
    dropping g (goal.at.returns-in_err-remove_segment-clause-any_moment g c).In-Some c.remove_segment.new.folder h (c.remove_segment.ensures.any_moment h)

pub returns-clause-any_moment : goal.returns-clause-any_moment
returns-clause-any_moment g c = λ h. dropping g (goal.at.returns-clause-any_moment g c).In-Some c.remove_segment.new.folder h (c.remove_segment.ensures.any_moment h)

pub returns-in_err-remove_segment-clause-rest : goal.returns-in_err-remove_segment-clause-rest
returns-in_err-remove_segment-clause-rest g c = λ h.
    let log = c.self.inside in
    let slots = log_slots log.first (map (λ x. part_of x.first x.reader) log.segments.items) log.tail.bytes in
    subst (λ v. IsRest v.first v.slots c.args.number log.first slots) c.self.view_is (rest_itself log.first c.args.number slots)

pub remove-requires : goal.remove-requires
remove-requires g c =
    let here = (goal.at.remove-requires g c).In-Some in
    let some = some_can (λ x. part_of x.first x.reader) c.self.inside.segments.items _ _ _ _ (can_go g here) in
    omega (arith, some, c.self.inside.segments.ok.0)

pub returns-clause-rest : goal.returns-clause-rest
returns-clause-rest g c = λ h.
    let here = (goal.at.returns-clause-rest g c).In-Some in
    let log = c.self.inside in
    let next = c.in-Some.next in
    let f = ((known_is g here).1 h).0 in
    let segments = map (λ x. part_of x.first x.reader) log.segments.items in
    let left = ap (λ l. map (λ x. part_of x.first x.reader) l) c.remove.ensures.by_index.2 ∙ sym (drop-map (λ x. part_of x.first x.reader) 1 log.segments.items) in
    subst (λ v. IsRest v.first v.slots c.args.number next (log_slots next (map (λ x. part_of x.first x.reader) c.remove.new.self.items) log.tail.bytes)) c.self.view_is
    (subst (λ l. IsRest log.first (log_slots log.first segments log.tail.bytes) c.args.number next (log_slots next l log.tail.bytes)) (sym left)
    (dropped_rest log.first c.args.number next segments log.tail.bytes f.parts (can_go g here)))

pub returns-clause-files : goal.returns-clause-files
returns-clause-files g c = λ h.
    let here = (goal.at.returns-clause-files g c).In-Some in
    let F = g.F.Folder in
    let log = c.self.inside in
    let new = c.remove_segment.new.folder in
    let f = ((known_is g here).1 h).0 in
    subst (λ v. RemovesOnly c.args.number (F.seen v.folder) (F.seen new)) c.self.view_is
    (dropped_names log.first c.args.number c.in-Some.next (map (λ x. part_of x.first x.reader) log.segments.items) log.tail.bytes f.parts (can_go g here)
    (F.seen log.folder) (F.seen new) (f.on_disk.outcomes (F.seen log.folder) (g.met.F.Folder.seen_may_be_left log.folder h))
    (c.remove_segment.ensures.elsewhere h) (c.in_ok-remove_segment.ensures.seen h))

pub returns-clause-more : goal.returns-clause-more
returns-clause-more g c = λ t.
    let here = (goal.at.returns-clause-more g c).In-Some in
    let log = c.self.inside in
    subst (λ v. v.first < c.in-Some.next) c.self.view_is
    (dropped_later log.first c.args.number _ c.in-Some.next (map (λ x. part_of x.first x.reader) log.segments.items) (can_go g here))

pub invariant_of-self-2 : goal.invariant_of-self-2
invariant_of-self-2 g c =
    let here = (goal.at.invariant_of-self-2 g c).In-Some in
    let F = g.F.Folder in
    let log = c.self.inside in
    let next = c.in-Some.next in
    let known = known_is g here in
    let new = c.remove_segment.new.folder in
    let segments = map (λ x. part_of x.first x.reader) log.segments.items in
    let left = ap (λ l. map (λ x. part_of x.first x.reader) l) c.remove.ensures.by_index.2 ∙ sym (drop-map (λ x. part_of x.first x.reader) 1 log.segments.items) in (
      known.0,
      λ h. (
        subst (λ l. IsSettledFolder (F.may_hold new) (F.may_leave new) (F.entry_kept new) (F.trusted new) next log.sealed l log.tail.bytes) (sym left)
            (dropped_folder log.first c.args.number next segments log.tail.bytes (known.1 h).0.parts (can_go g here) log.sealed
            (F.may_hold log.folder) (F.may_hold new) (F.may_leave log.folder) (F.may_leave new) (F.entry_kept log.folder) (F.entry_kept new) (F.trusted log.folder) (F.trusted new) (known.1 h).0
            (c.remove_segment.ensures.files h) (c.in_ok-remove_segment.ensures.kept h) (c.remove_segment.ensures.trust h tail_name (λ e. segment_no_tail _ (sym e))) (c.remove_segment.ensures.crash h)
            (c.in_ok-remove_segment.ensures.gone h)),
        All-same (λ x. IsTrue x.reader.file.honest) c.remove.new.self.items (drop 1 log.segments.items) c.remove.ensures.by_index.2
            (All-drop (λ x. IsTrue x.reader.file.honest) 1 log.segments.items (known.1 h).1),
        OnFalse_from log.may_overlap _ (λ none. subst (AreNext next) (sym left) (next_dropped log.first c.args.number next _ segments (can_go g here) (OnFalse_at none (known.1 h).2))),
      ),
    )
