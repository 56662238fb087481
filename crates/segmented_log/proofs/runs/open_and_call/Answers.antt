use Rattle.std.proofs.Common.{inl, inr, ⊎_elim, [], sym, subst}
use Rattle.std.specs.Prelude.{IsTrue}
use Rattle.store_folder.specs.Moments.{LeavesOnly}
use Rattle.store_folder.proofs.Steps.{joined, weaker}
use Rattle.segmented_log.specs.Runs.{IsOldOrCalled}
use Rattle.segmented_log.proofs.RunLemmas.{begins_from, makes_from, keeps_and_adds}
use Rattle.segmented_log.proofs.runs.open_and_call.Goals.{After-call_all}
use Rattle.segmented_log.proofs.runs.open_and_call.Goals as goal

pub returns-in-Err-clause-any_moment_err : goal.returns-in-Err-clause-any_moment_err
returns-in-Err-clause-any_moment_err g c = λ h.
    let F = g.F.Folder in
    let calls = c.args.calls.now in
    weaker F.moment F.left_since c.args.folder c.in-Err.refusal.1 _ (IsOldOrCalled c.args.commit calls (F.may_leave c.args.folder) (F.seen c.args.folder))
    (λ l. ⊎_elim (λ before. inl before) (λ keeps. inr (keeps_and_adds c.args.commit calls (F.seen c.args.folder) l keeps))) (c.in-Err.ensures.any_moment_err h)

-- what a crash leaves while it opens and while it makes calls
leaves : (g : _) (c : After-call_all g) → IsTrue g.F.Folder.honest
    → LeavesOnly g.F.Folder.moment g.F.Folder.left_since c.args.folder c.call_all.new.log.folder
    (IsOldOrCalled c.args.commit c.args.calls.now (g.F.Folder.may_leave c.args.folder) (g.F.Folder.seen c.args.folder))
leaves g c h =
    let F = g.F.Folder in
    let seen = F.seen c.args.folder in
    let log = c.in-Ok.log in
    let opened = c.in-Ok.ensures in
    let calls = c.args.calls.now in
    let P = IsOldOrCalled c.args.commit calls (F.may_leave c.args.folder) seen in
    joined F.moment F.left_since c.args.folder log.folder c.call_all.new.log.folder P
    (weaker F.moment F.left_since c.args.folder log.folder _ P (λ l. ⊎_elim (λ before. inl before) (λ keeps. inr (keeps_and_adds c.args.commit calls seen l keeps))) (opened.any_moment h))
    (weaker F.moment F.left_since log.folder c.call_all.new.log.folder _ P
    (λ l has. inr (record {
      same = λ first kept is_log. let found = opened.found h first kept is_log in begins_from c.args.commit log.commit first log.first kept log.slots [] log.pending calls l opened.commit found.0
          found.1 opened.none_pending has;
      begun = λ blank. let found = opened.begun h blank in inr
          (begins_from c.args.commit log.commit 0 log.first [] log.slots [] log.pending calls l opened.commit found.0 found.1 opened.none_pending has);
    }))
    (c.call_all.ensures.any_moment h opened.works))

pub returns-in-Ok-call_all-clause-acknowledged : goal.returns-in-Ok-call_all-clause-acknowledged
returns-in-Ok-call_all-clause-acknowledged g c = λ h first kept is_log.
    let log = c.in-Ok.log in
    let new = c.call_all.new.log in
    let found = c.in-Ok.ensures.found h first kept is_log in
    makes_from c.args.calls.now log.pending [] log.first first new.first log.slots kept new.slots c.in-Ok.ensures.none_pending found.0 found.1 (c.in-Ok-call_all.ensures.acknowledged h)

pub returns-in-Ok-call_all-clause-begun : goal.returns-in-Ok-call_all-clause-begun
returns-in-Ok-call_all-clause-begun g c = λ h blank.
    let log = c.in-Ok.log in
    let new = c.call_all.new.log in
    let found = c.in-Ok.ensures.begun h blank in
    makes_from c.args.calls.now log.pending [] log.first 0 new.first log.slots [] new.slots c.in-Ok.ensures.none_pending found.0 found.1 (c.in-Ok-call_all.ensures.acknowledged h)

pub returns-in-Ok-call_all-clause-any_moment : goal.returns-in-Ok-call_all-clause-any_moment
returns-in-Ok-call_all-clause-any_moment g c = leaves g (goal.at.returns-in-Ok-call_all-clause-any_moment g c).After-call_all

pub returns-in-Err-call_all-clause-any_moment_err : goal.returns-in-Err-call_all-clause-any_moment_err
returns-in-Err-call_all-clause-any_moment_err g c = λ h.
    let F = g.F.Folder in
    subst (λ d. LeavesOnly F.moment F.left_since c.args.folder d (IsOldOrCalled c.args.commit c.args.calls.now (F.may_leave c.args.folder) (F.seen c.args.folder))) (sym c.into_folder.ensures)
    (leaves g (goal.at.returns-in-Err-call_all-clause-any_moment_err g c).After-call_all h)

pub returns-in-Err-call_all-clause-kind : goal.returns-in-Err-call_all-clause-kind
returns-in-Err-call_all-clause-kind g c = inr c.in-Err-call_all.ensures.kind
