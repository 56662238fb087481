use Rattle.std.proofs.Common.{inl, inr, ⊎_elim, ◌∷◌, [], take, drop, ◌∙◌, ap, sym, subst, arith, refl, take-append-drop}
use Rattle.std.specs.Prelude.{IsTrue}
use Rattle.store_folder.specs.Moments.{LeavesOnly}
use Rattle.store_folder.proofs.Steps.{started, joined, weaker}
use Rattle.segmented_log.specs.Runs.{pending_by, Makes, HasBeginning}
use Rattle.segmented_log.proofs.RunLemmas.{always_err, has_itself, makes_none, begins_all, makes_item, reaches_all, pending_more, drops_item}
use Rattle.segmented_log.proofs.runs.call_all.Goals.{After-make_call}
use Rattle.segmented_log.proofs.runs.call_all.Goals as goal

-- what a crash leaves up to the end of one call more
leaves : (g : _) (c : After-make_call g) → IsTrue g.F.Folder.honest → LeavesOnly g.F.Folder.moment g.F.Folder.left_since c.args.log.now.folder c.make_call.new.log.folder
    (HasBeginning c.args.log.now.commit c.args.log.now.first c.args.log.now.slots c.args.log.now.pending c.args.calls.now)
leaves g c h =
    let F = g.F.Folder in
    let old = c.args.log.now in
    let mid = c.loop-next.log in
    let new = c.make_call.new.log in
    let before = c.loop-next.invariant in
    joined F.moment F.left_since old.folder mid.folder new.folder (HasBeginning old.commit old.first old.slots old.pending c.args.calls.now) (before.any_moment h)
    (weaker F.moment F.left_since mid.folder new.folder _ _
    (λ l has. begins_all c.args.calls.now c.loop-next.next-index c.next-item.result (omega arith) c.next-item.is old.pending mid.pending old.first mid.first old.slots mid.slots before.pending
    (before.makes h)
    old.commit mid.commit before.commit l has)
    (c.make_call.ensures.any_moment h))

pub returns-in_err-make_call-clause-any_moment : goal.returns-in_err-make_call-clause-any_moment
returns-in_err-make_call-clause-any_moment g c = λ h works. leaves g (goal.at.returns-in_err-make_call-clause-any_moment g c).After-make_call h

pub returns-in_err-make_call-clause-commit : goal.returns-in_err-make_call-clause-commit
returns-in_err-make_call-clause-commit g c = c.make_call.ensures.commit ∙ c.loop-next.invariant.commit

pub returns-in_err-make_call-clause-first : goal.returns-in_err-make_call-clause-first
returns-in_err-make_call-clause-first g c = λ none.
    c.make_call.ensures.first (λ drops. none (drops_item c.args.calls.now c.loop-next.next-index c.next-item.result (omega arith) c.next-item.is drops))
    ∙ c.loop-next.invariant.first none

pub returns-in_err-make_call-clause-grows : goal.returns-in_err-make_call-clause-grows
returns-in_err-make_call-clause-grows g c = λ h. omega (arith, (c.loop-next.invariant.makes h).grows, c.make_call.ensures.grows h)

pub returns-in_err-make_call-clause-reaches : goal.returns-in_err-make_call-clause-reaches
returns-in_err-make_call-clause-reaches g c = λ h.
    let old = c.args.log.now in
    let mid = c.loop-next.log in
    let before = c.loop-next.invariant in
    reaches_all c.args.calls.now c.loop-next.next-index c.next-item.result (omega arith) c.next-item.is old.pending mid.pending old.first mid.first old.slots mid.slots before.pending (before.makes h)
    c.make_call.new.log.first (c.make_call.ensures.reaches h)

pub returns-in_err-make_call-clause-err : goal.returns-in_err-make_call-clause-err
returns-in_err-make_call-clause-err g c = λ h.
    let i = c.loop-next.next-index in
    let calls = c.args.calls.now in
    let before = c.loop-next.invariant in
    always_err c.from_residual.result
    (⊎_elim (λ broken. inl broken) (λ same. inr (record {
      made = take i calls;
      others = drop i calls;
      all = sym (take-append-drop i calls);
      makes = subst (λ v. Makes (take i calls) c.args.log.now.pending c.args.log.now.first c.args.log.now.slots v.first v.slots) (sym same) (before.makes h);
      pending = ap (λ v. v.pending) same ∙ before.pending;
    })) c.in_err-make_call.ensures.err)

pub loop-next-preserved : goal.loop-next-preserved
loop-next-preserved g c =
    let here = (goal.at.loop-next-preserved g c).After-make_call in
    let i = c.loop-next.next-index in
    let before = c.loop-next.invariant in
    let old = c.args.log.now in
    let mid = c.loop-next.log in
    let new = c.make_call.new.log in
    let item = c.next-item.result in
    let calls = c.args.calls.now in
    let after = c.in_ok-make_call.ensures in
    record {
      works = after.works;
      commit = after.commit ∙ before.commit;
      first = λ none. after.first (λ drops. none (drops_item calls i item (omega arith) c.next-item.is drops)) ∙ before.first none;
      makes = λ h.
          makes_item calls i item (omega arith) c.next-item.is old.pending mid.pending old.first mid.first old.slots mid.slots before.pending (before.makes h) new.first new.slots (after.slots h);
      pending = after.pending ∙ ap (λ p. pending_by p (item ∷ [])) before.pending ∙ sym (pending_more calls i item (omega arith) c.next-item.is old.pending);
      any_moment = λ h. leaves g here h;
      failures = omega (arith, before.failures, after.failures);
    }

pub loop-next-init : goal.loop-next-init
loop-next-init g c =
    let F = g.F.Folder in
    let old = c.args.log.now in
    record {
      works = sym c.is_broken.ensures.value ∙ c.if-is_broken.false;
      commit = refl;
      first = λ none. refl;
      makes = λ h. makes_none old.pending old.first old.slots;
      pending = refl;
      any_moment = λ h.
          started F.moment F.left_since old.folder (HasBeginning old.commit old.first old.slots old.pending c.args.calls.now)
          (λ l left. has_itself old.commit old.first old.slots old.pending c.args.calls.now l (c.is_broken.ensures.durable h c.if-is_broken.false l (g.met.F.Folder.only_now old.folder l left)));
      failures = omega arith;
    }
