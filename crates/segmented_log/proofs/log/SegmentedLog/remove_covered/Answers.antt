use Rattle.std.proofs.Common.{◌≡◌, ◌<◌, ◌+◌, ◌++◌, length, take, drop, suc, map, refl, sym, ◌∙◌, ap, subst, arith}
use Rattle.std.specs.Prelude.{IsTrue, IsSome, None}
use Rattle.std.proofs.lemmas.Bool.{OnFalse_at}
use Rattle.std.proofs.lemmas.List.{length-map}
use Rattle.std.proofs.lemmas.List.Elements.{All-take, All-drop, All-append, All-same}
use Rattle.std.specs.List.{remove}
use Rattle.store_folder.specs.Moments.{LeavesOnly}
use Rattle.store_folder.specs.Folder.{LosesFile, FilesElsewhere}
use Rattle.store_folder.specs.Moments.{ComesFrom}
use Rattle.store_folder.proofs.Steps.{weaker}
use Rattle.segmented_log.specs.Names.{segment_name, tail_name}
use Rattle.segmented_log.specs.Parts.{Part, part_of, sealed_of, parts_of, log_slots}
use Rattle.segmented_log.specs.Log.{Holds, IsLog}
use Rattle.segmented_log.specs.Settled.{IsSettledFolder}
use Rattle.segmented_log.specs.Dropping.{LosesSegment}
use Rattle.segmented_log.specs.Compacting.{AreNext, IsCovered, ChangesSegments}
use Rattle.segmented_log.specs.Joining.{JoinsSome}
use Rattle.segmented_log.proofs.PackLemmas.{joins_gone}
use Rattle.segmented_log.proofs.CompactLemmas.{changes_removed, segment_there}
use Rattle.segmented_log.proofs.RunOfParts.{covered_moved, view_parts, covered_is, map_removed, covered_left, without, covered_same, covered_log, covered_folder}
use Rattle.segmented_log.proofs.NameLemmas.{segment_no_tail}
use Rattle.segmented_log.proofs.log.SegmentedLog.remove_covered.Goals.{After-remove_segment, After-remove}
use Rattle.std.specs.Bool.{OnFalse}
use Rattle.segmented_log.proofs.log.SegmentedLog.remove_covered.Goals as goal

-- what the log knows of its folder
settled : (g : _) (c : After-remove_segment g) → IsTrue g.F.Folder.honest → IsSettledFolder (g.F.Folder.may_hold c.self.inside.folder) (g.F.Folder.may_leave c.self.inside.folder)
    (g.F.Folder.entry_kept c.self.inside.folder) (g.F.Folder.trusted c.self.inside.folder) c.self.inside.first c.self.inside.sealed (map (λ s. part_of s.first s.reader) c.self.inside.segments.items)
    c.self.inside.tail.bytes
settled g c h = ((OnFalse_at (ap (λ v. v.is_broken) c.self.view_is ∙ c.requires.works) c.self.invariant).1 h).0

-- the segment at the place is covered
covered : (g : _) (c : After-remove_segment g) → IsTrue g.F.Folder.honest → IsCovered c.self.inside.first (map (λ s. part_of s.first s.reader) c.self.inside.segments.items) c.args.place
covered g c h =
    let log = c.self.inside in
    let same = view_parts (λ s. sealed_of s.first s.reader) (λ s. part_of s.first s.reader) (λ s. refl) log.segments.items in
    covered_moved log.first _ (map (λ s. part_of s.first s.reader) log.segments.items) c.args.place same
    (subst (λ w. IsCovered w.first (parts_of w.segments) c.args.place) (sym c.self.view_is) (c.requires.covered h))

-- it is the one that is removed
first_is : (g : _) (c : After-remove_segment g) (h : IsTrue g.F.Folder.honest) → c.index.result.now.first ≡ (covered g c h).covered.first
first_is g c h =
    let log = c.self.inside in
    let many = length-map log.segments.items (λ s. sealed_of s.first s.reader) in
    let size = ap (λ w. length w.segments) c.self.view_is in
    let within : c.args.place < length log.segments.items = omega (arith, c.requires.within, many, size) in
    ap (λ (p : Part). p.first) (covered_is (λ s. part_of s.first s.reader) log.segments.items log.first c.args.place (covered g c h) c.index.result.now within c.index.ensures)

-- while it is removed, each moment has the same log
same_log : (g : _) (c : After-remove_segment g) → IsTrue g.F.Folder.honest
    → LeavesOnly g.F.Folder.moment g.F.Folder.left_since c.args.self.now.folder c.remove_segment.new.folder (IsLog c.args.self.now.first c.args.self.now.slots)
same_log g c h =
    let F = g.F.Folder in
    let log = c.self.inside in
    let f = settled g c h in
    subst (λ w. LeavesOnly F.moment F.left_since w.folder c.remove_segment.new.folder (IsLog w.first w.slots)) c.self.view_is
    (weaker F.moment F.left_since log.folder c.remove_segment.new.folder _ _
    (λ l loses. covered_log log.first (map (λ s. part_of s.first s.reader) log.segments.items) log.tail.bytes c.args.place (covered g c h) f.parts (F.may_leave log.folder)
    (λ d left. f.on_disk.outcomes d left) l (subst (λ n. LosesSegment (F.may_leave log.folder) n l) (first_is g c h) loses)) (c.remove_segment.ensures.any_moment h))

changed : (g : _) (c : After-remove_segment g) → IsTrue g.F.Folder.honest → ChangesSegments (g.F.Folder.seen c.args.self.now.folder) (g.F.Folder.seen c.remove_segment.new.folder)
changed g c h =
    let F = g.F.Folder in
    let log = c.self.inside in
    let v = covered g c h in
    let held = (settled g c h).on_disk.outcomes (F.seen log.folder) (g.met.F.Folder.seen_may_be_left log.folder h) in
    let some = segment_there v.before v.covered v.after log.tail.bytes (F.seen log.folder) (subst (λ l. Holds l log.tail.bytes (F.seen log.folder)) v.split held) in
    subst (λ w. ChangesSegments (F.seen w.folder) (F.seen c.remove_segment.new.folder)) c.self.view_is
    (changes_removed c.index.result.now.first (F.seen log.folder) (F.seen c.remove_segment.new.folder) (subst (λ n. IsSome (F.seen log.folder (segment_name n))) (sym (first_is g c h)) some)
    (c.remove_segment.ensures.elsewhere h))

-- what is left of the segments
items_left : (g : _) (c : After-remove g) → c.remove.new.self.items ≡ take c.args.place c.self.inside.segments.items ++ drop (suc c.args.place) c.self.inside.segments.items
items_left g c =
    let next : c.args.place + 1 ≡ suc c.args.place = omega arith in
    c.remove.ensures.by_index.2 ∙ ap (λ n. take c.args.place c.self.inside.segments.items ++ drop n c.self.inside.segments.items) next

parts_left : (g : _) (c : After-remove g) (v : IsCovered c.self.inside.first (map (λ s. part_of s.first s.reader) c.self.inside.segments.items) c.args.place)
    → map (λ s. part_of s.first s.reader) c.remove.new.self.items ≡ without v
parts_left g c v =
    ap (λ l. map (λ s. part_of s.first s.reader) l) (items_left g c) ∙ covered_left (λ s. part_of s.first s.reader) c.self.inside.segments.items c.self.inside.first c.args.place v

pub returns-in_err-remove_segment-clause-any_moment : goal.returns-in_err-remove_segment-clause-any_moment
returns-in_err-remove_segment-clause-any_moment g c = λ h. same_log g (goal.at.returns-in_err-remove_segment-clause-any_moment g c).After-remove_segment h

pub returns-in_err-remove_segment-clause-files : goal.returns-in_err-remove_segment-clause-files
returns-in_err-remove_segment-clause-files g c = λ h. changed g (goal.at.returns-in_err-remove_segment-clause-files g c).After-remove_segment h

pub returns-clause-any_moment : goal.returns-clause-any_moment
returns-clause-any_moment g c = λ h. same_log g (goal.at.returns-clause-any_moment g c).After-remove_segment h

pub returns-clause-files : goal.returns-clause-files
returns-clause-files g c = λ h. changed g (goal.at.returns-clause-files g c).After-remove_segment h

pub returns-clause-slots : goal.returns-clause-slots
returns-clause-slots g c = λ h.
    let log = c.self.inside in
    let v = covered g (goal.at.returns-clause-slots g c).After-remove_segment h in
    ap (λ l. log_slots log.first l log.tail.bytes) (parts_left g (goal.at.returns-clause-slots g c).After-remove v)
    ∙ covered_same log.first (map (λ s. part_of s.first s.reader) log.segments.items) log.tail.bytes c.args.place v (settled g (goal.at.returns-clause-slots g c).After-remove_segment h).parts
    ∙ ap (λ w. w.slots) c.self.view_is

pub returns-clause-left : goal.returns-clause-left
returns-clause-left g c =
    let items = c.self.inside.segments.items in
    ap (λ l. map (λ s. sealed_of s.first s.reader) l) (items_left g (goal.at.returns-clause-left g c).After-remove)
    ∙ map_removed (λ s. sealed_of s.first s.reader) items c.args.place ∙ ap (λ w. remove w.segments c.args.place) c.self.view_is

pub invariant_of-self-2 : goal.invariant_of-self-2
invariant_of-self-2 g c = (
  (OnFalse_at (ap (λ v. v.is_broken) c.self.view_is ∙ c.requires.works) c.self.invariant).0,
  λ h.
      let F = g.F.Folder in
      let here = (goal.at.invariant_of-self-2 g c).After-remove_segment in
      let log = c.self.inside in
      let place = c.args.place in
      let f = settled g here h in
      let v = covered g here h in
      let first = first_is g here h in
      let new = c.remove_segment.new.folder in
      let honest = ((OnFalse_at (ap (λ w. w.is_broken) c.self.view_is ∙ c.requires.works) c.self.invariant).1 h).1 in (
        subst (λ l. IsSettledFolder (F.may_hold new) (F.may_leave new) (F.entry_kept new) (F.trusted new) log.first log.sealed l log.tail.bytes)
            (sym (parts_left g (goal.at.invariant_of-self-2 g c).After-remove v))
            (covered_folder log.first (map (λ s. part_of s.first s.reader) log.segments.items) log.tail.bytes place v f.parts log.sealed
            (F.may_hold log.folder) (F.may_hold new) (F.may_leave log.folder) (F.may_leave new) (F.entry_kept log.folder) (F.entry_kept new) (F.trusted log.folder) (F.trusted new) f
            (subst (λ n. FilesElsewhere (segment_name n) (F.may_hold log.folder) (F.may_hold new)) first (c.remove_segment.ensures.files h))
            (c.in_ok-remove_segment.ensures.kept h) (c.remove_segment.ensures.trust h tail_name (λ e. segment_no_tail _ (sym e)))
            (subst (λ n. ComesFrom (LosesFile (segment_name n)) (F.may_leave log.folder) (F.may_leave new)) first (c.remove_segment.ensures.crash h))
            (subst (λ n. (d : _) → F.may_leave new d → d (segment_name n) ≡ None) first (c.in_ok-remove_segment.ensures.gone h))),
        All-same (λ s. IsTrue s.reader.file.honest) c.remove.new.self.items (take place log.segments.items ++ drop (suc place) log.segments.items)
            (items_left g (goal.at.invariant_of-self-2 g c).After-remove)
            (All-append (λ s. IsTrue s.reader.file.honest) (take place log.segments.items) (drop (suc place) log.segments.items)
            (All-take (λ s. IsTrue s.reader.file.honest) place log.segments.items honest) (All-drop (λ s. IsTrue s.reader.file.honest) (suc place) log.segments.items honest)),
        subst (λ l. OnFalse c.may_overlap-self-inside.result (AreNext log.first (map (λ s. part_of s.first s.reader) l))) c.deref.ensures.value c.may_overlap-self-inside.ensures,
      ),
)

pub returns-clause-packed : goal.returns-clause-packed
returns-clause-packed g c = λ h.
    let F = g.F.Folder in
    let log = c.self.inside in
    subst (λ w. JoinsSome (F.seen w.folder) (F.seen c.remove_segment.new.folder)) c.self.view_is
    (joins_gone c.index.result.now.first (F.seen log.folder) (F.seen c.remove_segment.new.folder) (c.in_ok-remove_segment.ensures.seen h) (c.remove_segment.ensures.elsewhere h))
