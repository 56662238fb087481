use Rattle.std.proofs.Common.{rules, ◌^◌, ◌≡◌, ◌+◌, ◌-◌, ◌<◌, ◌++◌, length, map, take, drop, set, refl, sym, ◌∙◌, ap, subst, arith}
use Rattle.std.specs.Prelude.{All, IsTrue, IsSome, IsErrOf}
use Rattle.std.proofs.lemmas.Bool.{OnFalse_at}
use Rattle.std.proofs.lemmas.List.{map-set}
use Rattle.std.proofs.lemmas.List.Elements.{All-set}
use Rattle.std.specs.List.{Contains}
use Rattle.store_folder.specs.Moments.{LeavesOnly, ComesFrom}
use Rattle.store_folder.specs.Folder.{ElsewhereOfBoth, FilesElsewhereOfBoth}
use Rattle.store_folder.specs.Publishing.{part}
use Rattle.store_folder.proofs.Steps.{weaker}
use Rattle.store_format.specs.Block.{Slot, doc, damaged}
use Rattle.segmented_log.specs.declared.error.LogError.TheVariants.{Full, Damaged}
use Rattle.segmented_log.specs.Names.{segment_name, tail_name}
use Rattle.segmented_log.specs.Parts.{Part, part_of, sealed_of, parts_of, log_slots}
use Rattle.segmented_log.specs.Log.{HasSegment, Holds, IsLog}
use Rattle.segmented_log.specs.Settled.{AddsSegment, IsSettledFolder}
use Rattle.segmented_log.specs.Compacting.{IsRun, one_of, IsOfStore, slots_in, ChangesSegments}
use Rattle.segmented_log.specs.Opening.{HasSegments}
use Rattle.segmented_log.specs.Joining.{JoinsSome}
use Rattle.segmented_log.proofs.CompactLemmas.{changes_replaced, segment_there}
use Rattle.segmented_log.proofs.PackLemmas.{joins_one}
use Rattle.segmented_log.proofs.SlotLemmas.{in_part}
use Rattle.segmented_log.proofs.StepLemmas.{run_taken, of_store}
use Rattle.segmented_log.proofs.RunOfParts.{run_moved, moved_one, view_parts, run_within, parts_there, head_is, run_part, run_slots, run_set, run_log, run_same, run_folder}
use Rattle.segmented_log.proofs.NameLemmas.{beside_no_tail, segment_no_tail}
use Rattle.segmented_log.proofs.log.SegmentedLog.join.Goals.{After-join_segments}
use Rattle.segmented_log.proofs.log.SegmentedLog.join.Goals as goal

pub overflow_add-end : goal.overflow_add-end
overflow_add-end g c =
    let log = c.self.inside in
    let same = ap (λ w. parts_of w.segments) (sym c.self.view_is) ∙ view_parts (λ s. sealed_of s.first s.reader) (λ s. part_of s.first s.reader) (λ s. refl) log.segments.items in
    let r = run_moved _ (map (λ s. part_of s.first s.reader) log.segments.items) c.args.place c.args.count same c.requires.run in
    omega (arith, run_within (λ s. part_of s.first s.reader) log.segments.items c.args.place c.args.count r, log.segments.ok.0)

pub overflow_add-end-2 : goal.overflow_add-end-2
overflow_add-end-2 g c =
    let log = c.self.inside in
    let same = ap (λ w. parts_of w.segments) (sym c.self.view_is) ∙ view_parts (λ s. sealed_of s.first s.reader) (λ s. part_of s.first s.reader) (λ s. refl) log.segments.items in
    let r = run_moved _ (map (λ s. part_of s.first s.reader) log.segments.items) c.args.place c.args.count same c.requires.run in
    omega (arith, run_within (λ s. part_of s.first s.reader) log.segments.items c.args.place c.args.count r, log.segments.ok.0)

pub index-requires : goal.index-requires
index-requires g c =
    let log = c.self.inside in
    let same = ap (λ w. parts_of w.segments) (sym c.self.view_is) ∙ view_parts (λ s. sealed_of s.first s.reader) (λ s. part_of s.first s.reader) (λ s. refl) log.segments.items in
    let r = run_moved _ (map (λ s. part_of s.first s.reader) log.segments.items) c.args.place c.args.count same c.requires.run in
    omega (arith, run_within (λ s. part_of s.first s.reader) log.segments.items c.args.place c.args.count r)

pub offset_bounds-deref-place : goal.offset_bounds-deref-place
offset_bounds-deref-place g c =
    let log = c.self.inside in
    let same = ap (λ w. parts_of w.segments) (sym c.self.view_is) ∙ view_parts (λ s. sealed_of s.first s.reader) (λ s. part_of s.first s.reader) (λ s. refl) log.segments.items in
    let r = run_moved _ (map (λ s. part_of s.first s.reader) log.segments.items) c.args.place c.args.count same c.requires.run in
    omega (arith, run_within (λ s. part_of s.first s.reader) log.segments.items c.args.place c.args.count r, ap (λ l. length l) c.deref.ensures.value)

pub slice_bounds-join_segments-end : goal.slice_bounds-join_segments-end
slice_bounds-join_segments-end g c =
    let log = c.self.inside in
    let same = ap (λ w. parts_of w.segments) (sym c.self.view_is) ∙ view_parts (λ s. sealed_of s.first s.reader) (λ s. part_of s.first s.reader) (λ s. refl) log.segments.items in
    let r = run_moved _ (map (λ s. part_of s.first s.reader) log.segments.items) c.args.place c.args.count same c.requires.run in
    omega (arith, run_within (λ s. part_of s.first s.reader) log.segments.items c.args.place c.args.count r, ap (λ l. length l) c.deref.ensures.value)

-- the run, of the segments as the log has them
run_is : (g : _) (c : After-join_segments g) → IsRun (parts_of c.args.self.now.segments) c.args.place c.args.count
    → IsRun (map (λ s. part_of s.first s.reader) c.self.inside.segments.items) c.args.place c.args.count
run_is g c r =
    let log = c.self.inside in
    let same = ap (λ w. parts_of w.segments) (sym c.self.view_is) ∙ view_parts (λ s. sealed_of s.first s.reader) (λ s. part_of s.first s.reader) (λ s. refl) log.segments.items in
    run_moved _ (map (λ s. part_of s.first s.reader) log.segments.items) c.args.place c.args.count same r

run_one : (g : _) (c : After-join_segments g) (r : IsRun (parts_of c.args.self.now.segments) c.args.place c.args.count) → one_of (run_is g c r) ≡ one_of r
unfolding run_is
run_one g c r = moved_one _ _ c.args.place c.args.count _ r

-- the folder has its segments
there : (g : _) (c : After-join_segments g) → IsTrue g.F.Folder.honest
    → All (λ s. HasSegment (g.F.Folder.seen c.self.inside.folder) (part_of s.first s.reader)) (take (c.args.place + c.args.count + 1 - c.args.place) (drop c.args.place c.deref.result.now))
there g c h =
    let F = g.F.Folder in
    let log = c.self.inside in
    let f = ((OnFalse_at (ap (λ v. v.is_broken) c.self.view_is ∙ c.requires.works) c.self.invariant).1 h).0 in
    let held = f.on_disk.outcomes (F.seen log.folder) (g.met.F.Folder.seen_may_be_left log.folder h) in
    parts_there (HasSegment (F.seen log.folder)) (λ s. part_of s.first s.reader) log.segments.items c.deref.result.now c.deref.ensures.value held.each c.args.place
    (c.args.place + c.args.count + 1 - c.args.place)

-- the segment that is published
part_is : (g : _) (c : After-join_segments g) (r : IsRun (map (λ s. part_of s.first s.reader) c.self.inside.segments.items) c.args.place c.args.count)
    → record {
      first = c.index.result.now.first;
      slots = slots_in
          (map (λ s. part_of s.first s.reader) (take (c.args.place + c.args.count + 1 - c.args.place) (drop c.args.place c.deref.result.now)));
    } ≡ one_of r
part_is g c r =
    let items = c.self.inside.segments.items in
    let x = c.index.result.now in
    subst (λ l. record { first = x.first; slots = slots_in (map (λ s. part_of s.first s.reader) (take (c.args.place + c.args.count + 1 - c.args.place) (drop c.args.place l))) } ≡ one_of r)
    (sym c.deref.ensures.value)
    (run_part (λ s. part_of s.first s.reader) items c.args.place c.args.count r x x.first (c.args.place + c.args.count + 1 - c.args.place) c.index.ensures refl (omega arith))

-- its name
first_is : (g : _) (c : After-join_segments g) (r : IsRun (map (λ s. part_of s.first s.reader) c.self.inside.segments.items) c.args.place c.args.count) → c.index.result.now.first ≡ r.head.first
first_is g c r = ap (λ (p : Part). p.first) (head_is (λ s. part_of s.first s.reader) c.self.inside.segments.items c.args.place c.args.count r c.index.result.now c.index.ensures)

moments_now : (g : _) (c : After-join_segments g) → IsTrue g.F.Folder.honest
    → LeavesOnly g.F.Folder.moment g.F.Folder.left_since c.args.self.now.folder c.join_segments.new.folder (IsLog c.args.self.now.first c.args.self.now.slots)
moments_now g c h =
    let F = g.F.Folder in
    let log = c.self.inside in
    let f = ((OnFalse_at (ap (λ v. v.is_broken) c.self.view_is ∙ c.requires.works) c.self.invariant).1 h).0 in
    let segments = map (λ s. part_of s.first s.reader) log.segments.items in
    let r = run_is g c c.requires.run in
    subst (λ w. LeavesOnly F.moment F.left_since w.folder c.join_segments.new.folder (IsLog w.first w.slots)) c.self.view_is
    (weaker F.moment F.left_since log.folder c.join_segments.new.folder _ _
    (λ l adds. run_log log.first segments log.tail.bytes c.args.place c.args.count r f.parts (F.may_leave log.folder) (λ d left. f.on_disk.outcomes d left) l
    (subst (λ p. AddsSegment (F.may_leave log.folder) p l) (part_is g c r) adds)) (c.join_segments.ensures.any_moment h (there g c h)))

-- the folder has the first of them
head_there : (g : _) (c : After-join_segments g) → IsTrue g.F.Folder.honest → IsSome (g.F.Folder.seen c.self.inside.folder (segment_name (run_is g c c.requires.run).head.first))
head_there g c h =
    let F = g.F.Folder in
    let log = c.self.inside in
    let f = ((OnFalse_at (ap (λ v. v.is_broken) c.self.view_is ∙ c.requires.works) c.self.invariant).1 h).0 in
    let r = run_is g c c.requires.run in
    let held = f.on_disk.outcomes (F.seen log.folder) (g.met.F.Folder.seen_may_be_left log.folder h) in
    segment_there r.before r.head (r.run ++ r.after) log.tail.bytes (F.seen log.folder) (subst (λ l. Holds l log.tail.bytes (F.seen log.folder)) r.split held)

has_segments : (g : _) (c : After-join_segments g) → IsTrue g.F.Folder.honest → HasSegments (g.F.Folder.seen c.args.self.now.folder)
has_segments g c h = subst (λ w. HasSegments (g.F.Folder.seen w.folder)) c.self.view_is ((run_is g c c.requires.run).head.first, head_there g c h)

-- a slot of those that are joined is one of the log's segments
old_slots : (g : _) (c : After-join_segments g) (slot : Slot)
    → Contains (slots_in (map (λ s. part_of s.first s.reader) (take (c.args.place + c.args.count + 1 - c.args.place) (drop c.args.place c.deref.result.now)))) slot
    → Contains (slots_in (parts_of c.args.self.now.segments)) slot
old_slots g c slot has =
    let items = c.self.inside.segments.items in
    let same = ap (λ w. parts_of w.segments) (sym c.self.view_is) ∙ view_parts (λ s. sealed_of s.first s.reader) (λ s. part_of s.first s.reader) (λ s. refl) items in
    let n = c.args.place + c.args.count + 1 - c.args.place in
    subst (λ l. Contains (slots_in l) slot) (sym same)
    (in_part (λ s. part_of s.first s.reader) slot c.args.place n items
    (subst (λ l. Contains (slots_in (map (λ s. part_of s.first s.reader) (take n (drop c.args.place l)))) slot) c.deref.ensures.value has))

-- a store has numbers for them
few_slots : (g : _) (c : After-join_segments g)
    → length (slots_in (map (λ s. part_of s.first s.reader) (take (c.args.place + c.args.count + 1 - c.args.place) (drop c.args.place c.deref.result.now)))) < 2 ^ 32
few_slots g c =
    let items = c.self.inside.segments.items in
    let same = ap (λ w. parts_of w.segments) (sym c.self.view_is) ∙ view_parts (λ s. sealed_of s.first s.reader) (λ s. part_of s.first s.reader) (λ s. refl) items in
    let n = c.args.place + c.args.count + 1 - c.args.place in
    let r = run_is g c c.requires.run in
    let few = subst (λ l. length (slots_in (take (c.args.count + 1) (drop c.args.place l))) < 2 ^ 32) same c.requires.few in
    omega (
      arith,
      few,
      ap (λ l. length (slots_in l)) (run_taken (map (λ s. part_of s.first s.reader) items) c.args.place c.args.count r),
      ap length (run_slots (λ s. part_of s.first s.reader) items c.args.place c.args.count r n (omega arith)),
      ap (λ l. length (slots_in (map (λ s. part_of s.first s.reader) (take n (drop c.args.place l))))) c.deref.ensures.value,
    )

files_now : (g : _) (c : After-join_segments g) → IsTrue g.F.Folder.honest → ChangesSegments (g.F.Folder.seen c.args.self.now.folder) (g.F.Folder.seen c.join_segments.new.folder)
files_now g c h =
    let F = g.F.Folder in
    let log = c.self.inside in
    let f = ((OnFalse_at (ap (λ v. v.is_broken) c.self.view_is ∙ c.requires.works) c.self.invariant).1 h).0 in
    let r = run_is g c c.requires.run in
    subst (λ w. ChangesSegments (F.seen w.folder) (F.seen c.join_segments.new.folder)) c.self.view_is
    (changes_replaced c.index.result.now.first (F.seen log.folder) (F.seen c.join_segments.new.folder)
    (subst (λ n. IsSome (F.seen log.folder (segment_name n))) (sym (first_is g c r)) (head_there g c h))
    (c.join_segments.ensures.elsewhere h))

pub returns-in_err-joined-clause-any_moment : goal.returns-in_err-joined-clause-any_moment
returns-in_err-joined-clause-any_moment g c = λ h. moments_now g (goal.at.returns-in_err-joined-clause-any_moment g c).After-join_segments h

pub returns-in_err-joined-clause-files : goal.returns-in_err-joined-clause-files
returns-in_err-joined-clause-files g c = λ h. files_now g (goal.at.returns-in_err-joined-clause-files g c).After-join_segments h

pub returns-in_err-joined-clause-there : goal.returns-in_err-joined-clause-there
returns-in_err-joined-clause-there g c = λ h. has_segments g (goal.at.returns-in_err-joined-clause-there g c).After-join_segments h

pub returns-clause-there : goal.returns-clause-there
returns-clause-there g c = λ h. has_segments g (goal.at.returns-clause-there g c).After-join_segments h

pub returns-in_err-joined-clause-damaged : goal.returns-in_err-joined-clause-damaged
returns-in_err-joined-clause-damaged g c = λ h is.
    let here = (goal.at.returns-in_err-joined-clause-damaged g c).After-join_segments in
    let refused : IsErrOf c.join_segments.result Damaged = search rules in
    old_slots g here damaged (c.join_segments.ensures.damaged h (there g here h) refused)

pub returns-in_err-joined-clause-full : goal.returns-in_err-joined-clause-full
returns-in_err-joined-clause-full g c = λ h is.
    let here = (goal.at.returns-in_err-joined-clause-full g c).After-join_segments in
    let refused : IsErrOf c.join_segments.result Full = search rules in
    let long = c.join_segments.ensures.full h (there g here h) (few_slots g here) refused in
    (long.0, old_slots g here (doc long.0) long.1, long.2)

pub returns-clause-any_moment : goal.returns-clause-any_moment
returns-clause-any_moment g c = λ h. moments_now g (goal.at.returns-clause-any_moment g c).After-join_segments h

pub returns-clause-files : goal.returns-clause-files
returns-clause-files g c = λ h. files_now g (goal.at.returns-clause-files g c).After-join_segments h

pub returns-clause-packed : goal.returns-clause-packed
returns-clause-packed g c = λ h.
    let here = (goal.at.returns-clause-packed g c).After-join_segments in
    let F = g.F.Folder in
    let log = c.self.inside in
    subst (λ w. JoinsSome (F.seen w.folder) (F.seen c.join_segments.new.folder)) c.self.view_is
    (joins_one c.index.result.now.first _ (F.seen log.folder) (F.seen c.join_segments.new.folder) (c.in_ok-joined.ensures.joined h) (c.join_segments.ensures.elsewhere h))

pub returns-clause-joined : goal.returns-clause-joined
returns-clause-joined g c = λ h run.
    let here = (goal.at.returns-clause-joined g c).After-join_segments in
    let items = c.self.inside.segments.items in
    let y = c.replace.new.dest in
    let r = run_is g here run in
    let is : part_of y.first y.reader ≡ one_of r = ap (λ s. part_of s.first s.reader) c.replace.ensures.after ∙ c.in_ok-joined.ensures.segment h (there g here h) ∙ part_is g here r in
    record {
      one = sealed_of y.first y.reader;
      part_is = is ∙ run_one g here run;
      store = subst (λ s. IsOfStore (sealed_of s.first s.reader)) (sym c.replace.ensures.after) (of_store _ _ c.in_ok-joined.ensures.seen);
      new_is = map-set (λ s. sealed_of s.first s.reader) items c.args.place y ∙ ap (λ w. set w.segments c.args.place (sealed_of y.first y.reader)) c.self.view_is;
    }

pub returns-clause-slots : goal.returns-clause-slots
returns-clause-slots g c = λ h.
    let here = (goal.at.returns-clause-slots g c).After-join_segments in
    let log = c.self.inside in
    let f = ((OnFalse_at (ap (λ v. v.is_broken) c.self.view_is ∙ c.requires.works) c.self.invariant).1 h).0 in
    let segments = map (λ s. part_of s.first s.reader) log.segments.items in
    let y = c.replace.new.dest in
    let r = run_is g here c.requires.run in
    let is : part_of y.first y.reader ≡ one_of r = ap (λ s. part_of s.first s.reader) c.replace.ensures.after ∙ c.in_ok-joined.ensures.segment h (there g here h) ∙ part_is g here r in
    ap (λ l. log_slots log.first l log.tail.bytes) (run_set (λ s. part_of s.first s.reader) log.segments.items c.args.place c.args.count r y is)
    ∙ run_same log.first segments log.tail.bytes c.args.place c.args.count r f.parts ∙ ap (λ w. w.slots) c.self.view_is

pub invariant_of-self-2 : goal.invariant_of-self-2
invariant_of-self-2 g c = (
  (OnFalse_at (ap (λ v. v.is_broken) c.self.view_is ∙ c.requires.works) c.self.invariant).0,
  λ h.
      let here = (goal.at.invariant_of-self-2 g c).After-join_segments in
      let F = g.F.Folder in
      let log = c.self.inside in
      let new = c.join_segments.new.folder in
      let kept = (OnFalse_at (ap (λ v. v.is_broken) c.self.view_is ∙ c.requires.works) c.self.invariant).1 h in
      let f = kept.0 in
      let segments = map (λ s. part_of s.first s.reader) log.segments.items in
      let y = c.replace.new.dest in
      let r = run_is g here c.requires.run in
      let name_is = first_is g here r in
      let is : part_of y.first y.reader ≡ one_of r = ap (λ s. part_of s.first s.reader) c.replace.ensures.after ∙ c.in_ok-joined.ensures.segment h (there g here h) ∙ part_is g here r in
      let left = run_set (λ s. part_of s.first s.reader) log.segments.items c.args.place c.args.count r y is in (
        subst (λ l. IsSettledFolder (F.may_hold new) (F.may_leave new) (F.entry_kept new) (F.trusted new) log.first log.sealed l log.tail.bytes) (sym left)
            (run_folder log.first segments log.tail.bytes c.args.place c.args.count r f.parts log.sealed
            (F.may_hold log.folder) (F.may_hold new) (F.may_leave log.folder) (F.may_leave new) (F.entry_kept log.folder) (F.entry_kept new) (F.trusted log.folder) (F.trusted new) f
            (subst (λ n. FilesElsewhereOfBoth (segment_name n ++ part) (segment_name n) (F.may_hold log.folder) (F.may_hold new)) name_is (c.join_segments.ensures.files h))
            (c.in_ok-joined.ensures.kept h) (c.join_segments.ensures.trust h tail_name (beside_no_tail _) (λ e. segment_no_tail _ (sym e)))
            (subst (λ n. ComesFrom (ElsewhereOfBoth (segment_name n ++ part) (segment_name n)) (F.may_leave log.folder) (F.may_leave new)) name_is (c.join_segments.ensures.crash h))
            (subst (λ p. (d : _) → F.may_leave new d → HasSegment d p) (part_is g here r) (c.in_ok-joined.ensures.published h (there g here h)))),
        All-set (λ s. IsTrue s.reader.file.honest) log.segments.items c.args.place y (subst (λ s. IsTrue s.reader.file.honest) (sym c.replace.ensures.after) (c.in_ok-joined.ensures.honest h)) kept.1,
        tt,
      ),
)
