use Rattle.std.proofs.Common.{rules, inl, inr, ◌+◌, ◌^◌, ◌<◌, length, map, refl, sym, ◌∙◌, ap, subst, arith}
use Rattle.std.specs.Prelude.{IsTrue, IsErrOf}
use Rattle.std.proofs.lemmas.Bool.{OnFalse_at}
use Rattle.std.proofs.lemmas.List.{length-map}
use Rattle.std.proofs.lemmas.List.Edits.{length-remove}
use Rattle.store_folder.specs.Moments.{LeavesOnly}
use Rattle.store_folder.proofs.Steps.{weaker, joined}
use Rattle.std.specs.Result.{IsErrAnd}
use Rattle.segmented_log.specs.declared.error.LogError.TheVariants.{Full, Damaged}
use Rattle.segmented_log.specs.Causes.{IsFault, IsFailure}
use Rattle.segmented_log.specs.Parts.{part_of, sealed_of, parts_of, AreParts}
use Rattle.segmented_log.specs.Log.{Holds, IsLog}
use Rattle.segmented_log.specs.Compacting.{IsStep, Compacts, stay, join, remove_next, AreApart, IsCompacted}
use Rattle.segmented_log.specs.Joining.{none, next}
use Rattle.segmented_log.proofs.SyncLemmas.{log_stays}
use Rattle.segmented_log.proofs.CompactLemmas.{changes_none, changes_more}
use Rattle.segmented_log.proofs.RunOfParts.{view_parts}
use Rattle.segmented_log.proofs.CauseLemmas.{never}
use Rattle.segmented_log.proofs.StepLemmas.{step_within, next_covered, first_covers}
use Rattle.segmented_log.proofs.log.SegmentedLog.compact_next.Goals.{In_default, In-Some, After-join, In_ok-join}
use Rattle.segmented_log.proofs.log.SegmentedLog.compact_next.Goals as goal

pub returns-in_default-clause-files : goal.returns-in_default-clause-files
returns-in_default-clause-files g c = λ h. changes_none (g.F.Folder.seen c.args.self.now.folder)

-- where there is no step, the log stays
stays : (g : _) (c : In_default g) → IsTrue g.F.Folder.honest
    → LeavesOnly g.F.Folder.moment g.F.Folder.left_since c.args.self.now.folder c.args.self.now.folder (IsLog c.args.self.now.first c.args.self.now.slots)
stays g c h =
    let F = g.F.Folder in
    let log = c.self.inside in
    let settled = (OnFalse_at (ap (λ v. v.is_broken) c.self.view_is ∙ c.requires.works) c.self.invariant).1 h in
    subst (λ v. LeavesOnly F.moment F.left_since v.folder v.folder (IsLog v.first v.slots)) c.self.view_is
    (log_stays _ _ _ _ _ _ _ _ _ _ settled.0 log.folder (g.met.F.Folder.only_now log.folder))

pub returns-in_default-clause-any_moment : goal.returns-in_default-clause-any_moment
returns-in_default-clause-any_moment g c = λ h. stays g (goal.at.returns-in_default-clause-any_moment g c).In_default h

pub returns-then-from-eq0-clause-any_moment : goal.returns-then-from-eq0-clause-any_moment
returns-then-from-eq0-clause-any_moment g c = λ h. stays g (goal.at.returns-then-from-eq0-clause-any_moment g c).In_default h

pub returns-then-from-eq0-clause-files : goal.returns-then-from-eq0-clause-files
returns-then-from-eq0-clause-files g c = λ h. changes_none (g.F.Folder.seen c.args.self.now.folder)

pub returns-then-from-eq0-clause-joins : goal.returns-then-from-eq0-clause-joins
returns-then-from-eq0-clause-joins g c = λ h. stay

pub returns-then-from-eq0-clause-packed : goal.returns-then-from-eq0-clause-packed
returns-then-from-eq0-clause-packed g c = λ h. none

pub returns-then-from-eq0-clause-compacted : goal.returns-then-from-eq0-clause-compacted
returns-then-from-eq0-clause-compacted g c = λ h.
    let F = g.F.Folder in
    let log = c.self.inside in
    let f = ((OnFalse_at (ap (λ v. v.is_broken) c.self.view_is ∙ c.requires.works) c.self.invariant).1 h).0 in
    let same = view_parts (λ s. sealed_of s.first s.reader) (λ s. part_of s.first s.reader) (λ s. refl) log.segments.items in
    subst (λ v. IsCompacted v.first c.args.size v.segments (F.seen v.folder)) c.self.view_is
    (record {
      tail = log.tail.bytes;
      parts = subst (λ l. AreParts log.first l log.tail.bytes) (sym same) f.parts;
      holds = subst (λ l. Holds l log.tail.bytes (F.seen log.folder)) (sym same) (f.on_disk.outcomes (F.seen log.folder) (g.met.F.Folder.seen_may_be_left log.folder h));
      apart = subst (λ l. AreApart c.args.size (map (λ s. sealed_of s.first s.reader) l)) c.deref.ensures.value (c.in_default.ensures.none c.if-from-eq0.true);
    })

-- what can be done
step_is : (g : _) (c : In-Some g) → IsStep c.args.size c.args.self.now.segments c.in-Some.step.first c.in-Some.step.count
step_is g c =
    subst (λ v. IsStep c.args.size v.segments c.in-Some.step.first c.in-Some.step.count) c.self.view_is
    (subst (λ l. IsStep c.args.size (map (λ s. sealed_of s.first s.reader) l) c.in-Some.step.first c.in-Some.step.count) c.deref.ensures.value c.in-Some.ensures.some)

-- there is a place after it
step_fits : (g : _) (c : In-Some g) → c.in-Some.step.first + 1 < 2 ^ 64
step_fits g c =
    let log = c.self.inside in
    omega (
      arith,
      step_within _ _ _ _ (step_is g c),
      ap (λ v. length v.segments) c.self.view_is,
      length-map log.segments.items (λ x. sealed_of x.first x.reader),
      log.segments.ok.0,
    )

pub overflow_add-step : goal.overflow_add-step
overflow_add-step g c = omega (arith, step_fits g (goal.at.overflow_add-step g c).In-Some)

pub overflow_add-result : goal.overflow_add-result
overflow_add-result g c = omega (arith, step_fits g (goal.at.overflow_add-result g c).In-Some)

pub overflow_add-step-2 : goal.overflow_add-step-2
overflow_add-step-2 g c = omega (arith, step_fits g (goal.at.overflow_add-step-2 g c).In-Some)

pub remove_covered-requires-clause-within : goal.remove_covered-requires-clause-within
remove_covered-requires-clause-within g c = step_within _ _ _ _ (step_is g (goal.at.remove_covered-requires-clause-within g c).In-Some)

pub remove_covered-requires-clause-covered : goal.remove_covered-requires-clause-covered
remove_covered-requires-clause-covered g c = λ h.
    let s = step_is g (goal.at.remove_covered-requires-clause-covered g c).In-Some in
    next_covered c.args.self.now.first (parts_of c.args.self.now.segments) c.in-Some.step.first (s.covers (omega arith))

pub join-requires-clause-run : goal.join-requires-clause-run
join-requires-clause-run g c = ((step_is g (goal.at.join-requires-clause-run g c).In-Some).joins (omega arith)).run

pub join-requires-clause-few : goal.join-requires-clause-few
join-requires-clause-few g c = ((step_is g (goal.at.join-requires-clause-few g c).In-Some).joins (omega arith)).numbered

pub remove_covered-requires-2-clause-within : goal.remove_covered-requires-2-clause-within
remove_covered-requires-2-clause-within g c = omega (arith, step_within _ _ _ _ (step_is g (goal.at.remove_covered-requires-2-clause-within g c).In-Some), c.join.ensures.many)

pub remove_covered-requires-2-clause-covered : goal.remove_covered-requires-2-clause-covered
remove_covered-requires-2-clause-covered g c = λ h.
    let can = (step_is g (goal.at.remove_covered-requires-2-clause-covered g c).In-Some).joins (omega arith) in
    next_covered c.join.new.self.first (parts_of c.join.new.self.segments) c.in-Some.step.first (first_covers can (c.in_ok-join.ensures.joined h can.run))

-- the run was joined, and then a segment was removed
moments_now : (g : _) (c : After-join g) (new : _) → IsTrue g.F.Folder.honest
    → LeavesOnly g.F.Folder.moment g.F.Folder.left_since c.join.new.self.folder new (IsLog c.join.new.self.first c.join.new.self.slots)
    → LeavesOnly g.F.Folder.moment g.F.Folder.left_since c.args.self.now.folder new (IsLog c.args.self.now.first c.args.self.now.slots)
moments_now g c new h removing =
    let F = g.F.Folder in
    let old = c.args.self.now in
    let mid = c.join.new.self in
    joined F.moment F.left_since old.folder mid.folder new (IsLog old.first old.slots) (c.join.ensures.any_moment h)
    (weaker F.moment F.left_since mid.folder new _ _
    (λ l log. subst (λ n. IsLog n old.slots l) c.join.ensures.first (subst (λ s. IsLog mid.first s l) (c.join.ensures.slots h) log)) removing)

pub returns-in_err-remove_covered-2-clause-any_moment : goal.returns-in_err-remove_covered-2-clause-any_moment
returns-in_err-remove_covered-2-clause-any_moment g c = λ h.
    moments_now g (goal.at.returns-in_err-remove_covered-2-clause-any_moment g c).After-join _ h (c.remove_covered-2.ensures.any_moment h)

pub returns-clause-any_moment : goal.returns-clause-any_moment
returns-clause-any_moment g c = λ h. moments_now g (goal.at.returns-clause-any_moment g c).After-join _ h (c.remove_covered-2.ensures.any_moment h)

pub returns-in_err-remove_covered-2-clause-files : goal.returns-in_err-remove_covered-2-clause-files
returns-in_err-remove_covered-2-clause-files g c = λ h.
    let F = g.F.Folder in
    changes_more (F.seen c.args.self.now.folder) (F.seen c.join.new.self.folder) _ (c.join.ensures.files h) (c.remove_covered-2.ensures.files h)

pub returns-clause-files : goal.returns-clause-files
returns-clause-files g c = λ h.
    let F = g.F.Folder in
    changes_more (F.seen c.args.self.now.folder) (F.seen c.join.new.self.folder) _ (c.join.ensures.files h) (c.remove_covered-2.ensures.files h)

-- ---- what becomes of the segments

pub returns-in_default-clause-joins : goal.returns-in_default-clause-joins
returns-in_default-clause-joins g c = λ h. stay

pub returns-in_err-remove_covered-clause-joins : goal.returns-in_err-remove_covered-clause-joins
returns-in_err-remove_covered-clause-joins g c = λ h. subst (λ l. Compacts c.args.size c.args.self.now.segments l) (sym c.in_err-remove_covered.ensures.same) stay

pub returns-then-step-eq0-clause-joins : goal.returns-then-step-eq0-clause-joins
returns-then-step-eq0-clause-joins g c = λ h.
    let step = step_is g (goal.at.returns-then-step-eq0-clause-joins g c).In-Some in
    subst (λ l. Compacts c.args.size c.args.self.now.segments l) (sym c.in_ok-remove_covered.ensures.left) (remove_next stay (step.covers c.if-step-eq0.true))

pub returns-in_err-join-clause-joins : goal.returns-in_err-join-clause-joins
returns-in_err-join-clause-joins g c = λ h. subst (λ l. Compacts c.args.size c.args.self.now.segments l) (sym c.in_err-join.ensures.same) stay

-- a run has become one
run_joined : (g : _) (c : In_ok-join g) → IsTrue g.F.Folder.honest → Compacts c.args.size c.args.self.now.segments c.join.new.self.segments
run_joined g c h =
    let can = (step_is g (goal.at.In_ok-join g c).In-Some).joins (omega (arith, c.if-step-eq0.false)) in
    join stay can (c.in_ok-join.ensures.joined h can.run)

pub returns-in_err-remove_covered-2-clause-joins : goal.returns-in_err-remove_covered-2-clause-joins
returns-in_err-remove_covered-2-clause-joins g c = λ h.
    let here = (goal.at.returns-in_err-remove_covered-2-clause-joins g c).In_ok-join in
    subst (λ l. Compacts c.args.size c.args.self.now.segments l) (sym c.in_err-remove_covered-2.ensures.same) (run_joined g here h)

pub returns-clause-joins : goal.returns-clause-joins
returns-clause-joins g c = λ h.
    let here = (goal.at.returns-clause-joins g c).In_ok-join in
    let can = (step_is g (goal.at.returns-clause-joins g c).In-Some).joins (omega (arith, c.if-step-eq0.false)) in
    subst (λ l. Compacts c.args.size c.args.self.now.segments l) (sym c.in_ok-remove_covered-2.ensures.left)
    (remove_next (run_joined g here h) (first_covers can (c.in_ok-join.ensures.joined h can.run)))

pub returns-in_default-clause-packed : goal.returns-in_default-clause-packed
returns-in_default-clause-packed g c = λ h. none

pub returns-then-step-eq0-clause-packed : goal.returns-then-step-eq0-clause-packed
returns-then-step-eq0-clause-packed g c = λ h. next none (c.in_ok-remove_covered.ensures.packed h)

pub returns-clause-packed : goal.returns-clause-packed
returns-clause-packed g c = λ h. next (next none (c.in_ok-join.ensures.packed h)) (c.in_ok-remove_covered-2.ensures.packed h)

-- one of them is gone
pub returns-then-step-eq0-clause-fewer : goal.returns-then-step-eq0-clause-fewer
returns-then-step-eq0-clause-fewer g c =
    let within = step_within _ _ _ _ (step_is g (goal.at.returns-then-step-eq0-clause-fewer g c).In-Some) in
    omega (arith, ap (λ l. length l) c.in_ok-remove_covered.ensures.left, length-remove c.args.self.now.segments (c.in-Some.step.first + 1) within)

pub returns-clause-fewer : goal.returns-clause-fewer
returns-clause-fewer g c =
    let within = step_within _ _ _ _ (step_is g (goal.at.returns-clause-fewer g c).In-Some) in
    let many = c.join.ensures.many in
    omega (arith, many, ap (λ l. length l) c.in_ok-remove_covered-2.ensures.left, length-remove c.join.new.self.segments (c.in-Some.step.first + 1) (omega (arith, within, many)))

-- ---- why a step fails

pub returns-in_err-join-clause-failed : goal.returns-in_err-join-clause-failed
returns-in_err-join-clause-failed g c = λ h is. inr (c.join.ensures.there h)

pub returns-in_err-remove_covered-clause-failed : goal.returns-in_err-remove_covered-clause-failed
returns-in_err-remove_covered-clause-failed g c = λ h is.
    let refused : IsErrAnd c.remove_covered.result IsFailure = search rules in
    inl (c.remove_covered.ensures.failed refused)

pub returns-in_err-remove_covered-clause-damaged : goal.returns-in_err-remove_covered-clause-damaged
returns-in_err-remove_covered-clause-damaged g c = λ h is.
    let refused : IsErrOf c.remove_covered.result Damaged = search rules in
    absurd (never IsFault Damaged (λ of. of) c.remove_covered.result c.remove_covered.ensures.kind refused)

pub returns-in_err-remove_covered-clause-full : goal.returns-in_err-remove_covered-clause-full
returns-in_err-remove_covered-clause-full g c = λ h is.
    let refused : IsErrOf c.remove_covered.result Full = search rules in
    absurd (never IsFault Full (λ of. of) c.remove_covered.result c.remove_covered.ensures.kind refused)

pub returns-in_err-remove_covered-2-clause-failed : goal.returns-in_err-remove_covered-2-clause-failed
returns-in_err-remove_covered-2-clause-failed g c = λ h is. inr (c.join.ensures.there h)

pub returns-in_err-remove_covered-2-clause-damaged : goal.returns-in_err-remove_covered-2-clause-damaged
returns-in_err-remove_covered-2-clause-damaged g c = λ h is.
    let refused : IsErrOf c.remove_covered-2.result Damaged = search rules in
    absurd (never IsFault Damaged (λ of. of) c.remove_covered-2.result c.remove_covered-2.ensures.kind refused)

pub returns-in_err-remove_covered-2-clause-full : goal.returns-in_err-remove_covered-2-clause-full
returns-in_err-remove_covered-2-clause-full g c = λ h is.
    let refused : IsErrOf c.remove_covered-2.result Full = search rules in
    absurd (never IsFault Full (λ of. of) c.remove_covered-2.result c.remove_covered-2.ensures.kind refused)
