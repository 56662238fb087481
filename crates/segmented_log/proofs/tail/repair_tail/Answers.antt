use Rattle.std.proofs.Common.{inl, ◌++◌, Some, subst}
use Rattle.std.specs.Prelude.{IsTrue}
use Rattle.store_folder.specs.Moments.{LeavesOnly}
use Rattle.store_folder.specs.Publishing.{part, IsOldOrWhole}
use Rattle.store_folder.proofs.Steps.{started, weaker}
use Rattle.segmented_log.specs.Names.{tail_name}
use Rattle.segmented_log.specs.Opening.{IsOldOrSeen}
use Rattle.segmented_log.proofs.OpeningLemmas.{as_before, keeps_replaced}
use Rattle.segmented_log.proofs.tail.repair_tail.Goals.{After-whole_tail, After-deref}
use Rattle.segmented_log.proofs.tail.repair_tail.Goals as goal

-- while nothing is written, each moment has what there was
untouched : (g : _) (c : After-whole_tail g) → IsTrue g.F.Folder.honest
    → LeavesOnly g.F.Folder.moment g.F.Folder.left_since c.args.folder.now c.args.folder.now (IsOldOrSeen (g.F.Folder.may_leave c.args.folder.now) (g.F.Folder.seen c.args.folder.now))
untouched g c h =
    let F = g.F.Folder in
    let old = c.args.folder.now in
    started F.moment F.left_since old _ (λ l left. inl (as_before (F.may_leave old) l (g.met.F.Folder.only_now old l left)))

pub returns-in_err-tail-clause-any_moment : goal.returns-in_err-tail-clause-any_moment
returns-in_err-tail-clause-any_moment g c = λ h. untouched g (goal.at.returns-in_err-tail-clause-any_moment g c).After-whole_tail h

pub returns-then-is_damaged-clause-any_moment : goal.returns-then-is_damaged-clause-any_moment
returns-then-is_damaged-clause-any_moment g c = λ h. untouched g (goal.at.returns-then-is_damaged-clause-any_moment g c).After-whole_tail h

-- while the tail is replaced by its front, each moment has what there was, or the same log
same_log : (g : _) (c : After-deref g) (new : _) → IsTrue g.F.Folder.honest
    → LeavesOnly g.F.Folder.moment g.F.Folder.left_since c.args.folder.now new (IsOldOrWhole (g.F.Folder.may_leave c.args.folder.now) (tail_name ++ part) tail_name (Some c.deref.result.now))
    → LeavesOnly g.F.Folder.moment g.F.Folder.left_since c.args.folder.now new (IsOldOrSeen (g.F.Folder.may_leave c.args.folder.now) (g.F.Folder.seen c.args.folder.now))
same_log g c new h replacing =
    let F = g.F.Folder in
    let old = c.args.folder.now in
    let w = c.in_ok-tail.ensures in
    let file = c.in_ok-tail.field-0.tail.bytes.items in
    weaker F.moment F.left_since old new _ _
    (λ l o. keeps_replaced (F.seen old) (F.may_leave old) (c.requires.synced h) c.args.bytes.items file (c.requires.file h) w.tail.is_tail w.same.1 w.same.2 l
    (subst (λ b. IsOldOrWhole (F.may_leave old) (tail_name ++ part) tail_name (Some b) l) c.deref.ensures.value o)) replacing

pub returns-in_err-replace_tail-clause-any_moment : goal.returns-in_err-replace_tail-clause-any_moment
returns-in_err-replace_tail-clause-any_moment g c = λ h.
    same_log g (goal.at.returns-in_err-replace_tail-clause-any_moment g c).After-deref c.replace_tail.new.folder h (c.replace_tail.ensures.any_moment h)

pub returns-clause-any_moment : goal.returns-clause-any_moment
returns-clause-any_moment g c = λ h. same_log g (goal.at.returns-clause-any_moment g c).After-deref c.replace_tail.new.folder h (c.replace_tail.ensures.any_moment h)
