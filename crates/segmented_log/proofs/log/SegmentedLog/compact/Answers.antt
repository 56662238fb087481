use Rattle.std.proofs.Common.{rules, inl, inr, ⊎_elim, ◌≡◌, ◌<◌, ◌+◌, ◌*◌, min, length, IfSome, refl, sym, ◌∙◌, subst, arith}
use Rattle.std.specs.Prelude.{IsTrue, IsErrOf}
use Rattle.store_base.proofs.ListLemmas.{risen_later}
use Rattle.store_format.specs.Block.{doc, damaged}
use Rattle.std.specs.Result.{IsErrAnd}
use Rattle.segmented_log.specs.Causes.{IsFailure}
use Rattle.segmented_log.specs.declared.error.LogError.TheVariants.{Full, Damaged}
use Rattle.store_folder.specs.Moments.{LeavesOnly}
use Rattle.store_folder.proofs.Steps.{started, weaker, joined}
use Rattle.segmented_log.specs.Log.{IsLog}
use Rattle.segmented_log.specs.Compacting.{Compacts, stay, ChangesSegments}
use Rattle.segmented_log.specs.Joining.{none}
use Rattle.segmented_log.proofs.CompactLemmas.{changes_none, changes_more, changes_has}
use Rattle.segmented_log.proofs.PackLemmas.{joined_more}
use Rattle.segmented_log.proofs.StepLemmas.{compact_more, compact_slots}
use Rattle.segmented_log.proofs.log.SegmentedLog.compact.Goals.{After-compact_next}
use Rattle.segmented_log.proofs.log.SegmentedLog.compact.Goals as goal

pub loop-next-init : goal.loop-next-init
loop-next-init g c =
    let F = g.F.Folder in
    let log = c.args.self.now in
    record {
      works = sym c.is_broken.ensures.value ∙ c.if-is_broken.false;
      commit = refl;
      tail = refl;
      seal_size = refl;
      first = refl;
      slots = λ h. refl;
      pending = refl;
      joins = λ h. stay;
      packed = λ h. none;
      files = λ h. changes_none (F.seen log.folder);
      any_moment = λ h.
          started F.moment F.left_since log.folder _ (λ l left. c.is_broken.ensures.durable h c.if-is_broken.false l (g.met.F.Folder.only_now log.folder l left));
      failures = omega arith;
    }

pub compact_next-requires : goal.compact_next-requires
compact_next-requires g c = record { works = c.loop-next.invariant.works }

-- one step more
slots_now : (g : _) (c : After-compact_next g) → IsTrue g.F.Folder.honest → c.compact_next.new.self.slots ≡ c.args.self.now.slots
slots_now g c h = c.compact_next.ensures.slots h ∙ c.loop-next.invariant.slots h

files_now : (g : _) (c : After-compact_next g) → IsTrue g.F.Folder.honest → ChangesSegments (g.F.Folder.seen c.args.self.now.folder) (g.F.Folder.seen c.compact_next.new.self.folder)
files_now g c h =
    let F = g.F.Folder in
    changes_more (F.seen c.args.self.now.folder) (F.seen c.loop-next.self.folder) (F.seen c.compact_next.new.self.folder) (c.loop-next.invariant.files h) (c.compact_next.ensures.files h)

moments_now : (g : _) (c : After-compact_next g) → IsTrue g.F.Folder.honest
    → LeavesOnly g.F.Folder.moment g.F.Folder.left_since c.args.self.now.folder c.compact_next.new.self.folder (IsLog c.args.self.now.first c.args.self.now.slots)
moments_now g c h =
    let F = g.F.Folder in
    let old = c.args.self.now in
    let mid = c.loop-next.self in
    let new = c.compact_next.new.self in
    joined F.moment F.left_since old.folder mid.folder new.folder (IsLog old.first old.slots) (c.loop-next.invariant.any_moment h)
    (weaker F.moment F.left_since mid.folder new.folder _ _
    (λ l log. subst (λ n. IsLog n old.slots l) c.loop-next.invariant.first (subst (λ s. IsLog mid.first s l) (c.loop-next.invariant.slots h) log))
    (c.compact_next.ensures.any_moment h))

pub returns-in_err-next-clause-slots : goal.returns-in_err-next-clause-slots
returns-in_err-next-clause-slots g c = λ h. slots_now g (goal.at.returns-in_err-next-clause-slots g c).After-compact_next h

pub returns-in_err-next-clause-files : goal.returns-in_err-next-clause-files
returns-in_err-next-clause-files g c = λ h. files_now g (goal.at.returns-in_err-next-clause-files g c).After-compact_next h

pub returns-in_err-next-clause-any_moment : goal.returns-in_err-next-clause-any_moment
returns-in_err-next-clause-any_moment g c = λ h works. moments_now g (goal.at.returns-in_err-next-clause-any_moment g c).After-compact_next h

pub returns-then-is_broken-clause-joins : goal.returns-then-is_broken-clause-joins
returns-then-is_broken-clause-joins g c = λ h. stay

-- the steps so far
joins_now : (g : _) (c : After-compact_next g) → IsTrue g.F.Folder.honest → Compacts c.args.size c.args.self.now.segments c.compact_next.new.self.segments
joins_now g c h = compact_more (c.loop-next.invariant.joins h) (c.compact_next.ensures.joins h)

pub returns-in_err-next-clause-joins : goal.returns-in_err-next-clause-joins
returns-in_err-next-clause-joins g c = λ h. joins_now g (goal.at.returns-in_err-next-clause-joins g c).After-compact_next h

pub returns-clause-joins : goal.returns-clause-joins
returns-clause-joins g c = λ h. joins_now g (goal.at.returns-clause-joins g c).After-compact_next h

pub returns-clause-packed : goal.returns-clause-packed
returns-clause-packed g c = λ h. joined_more (c.loop-next.invariant.packed h) (c.in_ok-next.ensures.packed h)

pub loop-next-smaller : goal.loop-next-smaller
loop-next-smaller g c =
    let fewer = subst (λ more. IfSome more (λ n. 2 * length c.compact_next.new.self.segments + min n 1 < 2 * length c.loop-next.self.segments + min c.loop-next.from 1))
    c.in-Some.is c.in_ok-next.ensures.fewer in
    omega (arith, fewer)

pub loop-next-preserved : goal.loop-next-preserved
loop-next-preserved g c =
    let here = (goal.at.loop-next-preserved g c).After-compact_next in
    let before = c.loop-next.invariant in
    record {
      works = c.in_ok-next.ensures.works;
      commit = c.compact_next.ensures.commit ∙ before.commit;
      tail = c.compact_next.ensures.tail ∙ before.tail;
      seal_size = c.compact_next.ensures.seal_size ∙ before.seal_size;
      first = c.compact_next.ensures.first ∙ before.first;
      slots = λ h. slots_now g here h;
      pending = c.compact_next.ensures.pending ∙ before.pending;
      joins = λ h. joins_now g here h;
      packed = λ h. joined_more (before.packed h) (c.in_ok-next.ensures.packed h);
      files = λ h. files_now g here h;
      any_moment = λ h. moments_now g here h;
      failures = omega (arith, before.failures, c.compact_next.ensures.failures);
    }

pub returns-clause-slots : goal.returns-clause-slots
returns-clause-slots g c = λ h. slots_now g (goal.at.returns-clause-slots g c).After-compact_next h

pub returns-clause-files : goal.returns-clause-files
returns-clause-files g c = λ h. files_now g (goal.at.returns-clause-files g c).After-compact_next h

pub returns-clause-any_moment : goal.returns-clause-any_moment
returns-clause-any_moment g c = λ h works. moments_now g (goal.at.returns-clause-any_moment g c).After-compact_next h

-- ---- why a step failed

pub returns-in_err-next-clause-failed : goal.returns-in_err-next-clause-failed
returns-in_err-next-clause-failed g c = λ h is.
    let F = g.F.Folder in
    let refused : IsErrAnd c.compact_next.result IsFailure = search rules in
    ⊎_elim
    (λ risen. inl (risen_later _ _ _ c.loop-next.invariant.failures risen))
    (λ has. inr (changes_has (F.seen c.args.self.now.folder) (F.seen c.loop-next.self.folder) (c.loop-next.invariant.files h) has))
    (c.compact_next.ensures.failed h refused)

pub returns-in_err-next-clause-damaged : goal.returns-in_err-next-clause-damaged
returns-in_err-next-clause-damaged g c = λ h is.
    let refused : IsErrOf c.compact_next.result Damaged = search rules in
    compact_slots damaged (c.loop-next.invariant.joins h) (c.compact_next.ensures.damaged h refused)

pub returns-in_err-next-clause-full : goal.returns-in_err-next-clause-full
returns-in_err-next-clause-full g c = λ h is.
    let refused : IsErrOf c.compact_next.result Full = search rules in
    let long = c.compact_next.ensures.full h refused in
    (long.0, compact_slots (doc long.0) (c.loop-next.invariant.joins h) long.1, long.2)
