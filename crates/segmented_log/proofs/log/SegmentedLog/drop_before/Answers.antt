use Rattle.std.proofs.Common.{inl, refl, sym, ◌∙◌, arith}
use Rattle.std.specs.Prelude.{IsTrue}
use Rattle.store_folder.specs.Moments.{LeavesOnly}
use Rattle.store_folder.proofs.Steps.{started, weaker, joined}
use Rattle.segmented_log.specs.Dropping.{IsRest, DropsTo}
use Rattle.segmented_log.proofs.DropLemmas.{rest_itself, rest_of_rest, drops_none, drops_later, removes_more}
use Rattle.segmented_log.proofs.log.SegmentedLog.drop_before.Goals.{After-drop_first}
use Rattle.segmented_log.proofs.log.SegmentedLog.drop_before.Goals as goal

pub loop-init : goal.loop-init
loop-init g c =
    let F = g.F.Folder in
    let log = c.args.self.now in
    let number = c.args.number in
    record {
      works = sym c.is_broken.ensures.value ∙ c.if-is_broken.false;
      commit = refl;
      tail = refl;
      seal_size = refl;
      rest = λ h. rest_itself log.first number log.slots;
      pending = refl;
      files = λ h n. inl refl;
      any_moment = λ h.
          started F.moment F.left_since log.folder _
          (λ l left. drops_none log.first number log.slots l (c.is_broken.ensures.durable h c.if-is_broken.false l (g.met.F.Folder.only_now log.folder l left)));
      failures = omega arith;
    }

pub drop_first-requires : goal.drop_first-requires
drop_first-requires g c = record { works = c.loop.invariant.works }

-- one call more
rest_now : (g : _) (c : After-drop_first g) → IsTrue g.F.Folder.honest
    → IsRest c.args.self.now.first c.args.self.now.slots c.args.number c.drop_first.new.self.first c.drop_first.new.self.slots
rest_now g c h =
    let old = c.args.self.now in
    let mid = c.loop.self in
    let new = c.drop_first.new.self in
    rest_of_rest old.first mid.first new.first c.args.number old.slots mid.slots new.slots (c.loop.invariant.rest h) (c.drop_first.ensures.rest h)

moments_now : (g : _) (c : After-drop_first g) → IsTrue g.F.Folder.honest
    → LeavesOnly g.F.Folder.moment g.F.Folder.left_since c.args.self.now.folder c.drop_first.new.self.folder (DropsTo c.args.self.now.first c.args.self.now.slots c.args.number)
moments_now g c h =
    let F = g.F.Folder in
    let old = c.args.self.now in
    let mid = c.loop.self in
    let new = c.drop_first.new.self in
    joined F.moment F.left_since old.folder mid.folder new.folder (DropsTo old.first old.slots c.args.number) (c.loop.invariant.any_moment h)
    (weaker F.moment F.left_since mid.folder new.folder _ _ (λ l drops. drops_later old.first mid.first c.args.number old.slots mid.slots (c.loop.invariant.rest h) l drops)
    (c.drop_first.ensures.any_moment h))

pub returns-in_err-drop_first-clause-rest : goal.returns-in_err-drop_first-clause-rest
returns-in_err-drop_first-clause-rest g c = λ h. rest_now g (goal.at.returns-in_err-drop_first-clause-rest g c).After-drop_first h

pub returns-in_err-drop_first-clause-any_moment : goal.returns-in_err-drop_first-clause-any_moment
returns-in_err-drop_first-clause-any_moment g c = λ h works. moments_now g (goal.at.returns-in_err-drop_first-clause-any_moment g c).After-drop_first h

pub loop-smaller : goal.loop-smaller
loop-smaller g c =
    let more = c.in_ok-drop_first.ensures.more c.if-branch.true in
    let fits = c.in_ok-drop_first.ensures.fits c.if-branch.true in
    omega (arith, more, fits)

pub loop-preserved : goal.loop-preserved
loop-preserved g c =
    let F = g.F.Folder in
    let here = (goal.at.loop-preserved g c).After-drop_first in
    let before = c.loop.invariant in
    let old = c.args.self.now in
    record {
      works = c.in_ok-drop_first.ensures.works;
      commit = c.drop_first.ensures.commit ∙ before.commit;
      tail = c.drop_first.ensures.tail ∙ before.tail;
      seal_size = c.drop_first.ensures.seal_size ∙ before.seal_size;
      rest = λ h. rest_now g here h;
      pending = c.drop_first.ensures.pending ∙ before.pending;
      files = λ h.
          removes_more c.args.number (F.seen old.folder) (F.seen c.loop.self.folder) (F.seen c.drop_first.new.self.folder) (before.files h) (c.in_ok-drop_first.ensures.files h);
      any_moment = λ h. moments_now g here h;
      failures = omega (arith, before.failures, c.drop_first.ensures.failures);
    }

pub returns-clause-rest : goal.returns-clause-rest
returns-clause-rest g c = λ h. rest_now g (goal.at.returns-clause-rest g c).After-drop_first h

pub returns-clause-files : goal.returns-clause-files
returns-clause-files g c = λ h.
    let F = g.F.Folder in
    removes_more c.args.number (F.seen c.args.self.now.folder) (F.seen c.loop.self.folder) (F.seen c.drop_first.new.self.folder) (c.loop.invariant.files h) (c.in_ok-drop_first.ensures.files h)

pub returns-clause-any_moment : goal.returns-clause-any_moment
returns-clause-any_moment g c = λ h works. moments_now g (goal.at.returns-clause-any_moment g c).After-drop_first h
