use Rattle.std.proofs.Common.{rules, ◌≡◌, inl, Some, length, sym, ◌∙◌, ap, subst}
use Rattle.std.specs.Prelude.{IsTrue}
use Rattle.store_folder.specs.Moments.{LeavesOnly}
use Rattle.store_folder.proofs.Steps.{weaker, joined}
use Rattle.log_tail.specs.Heads.{rest_of}
use Rattle.segmented_log.specs.Names.{tail_name}
use Rattle.segmented_log.specs.Log.{KeepsLog}
use Rattle.segmented_log.specs.Opening.{IsOldOrSeen}
use Rattle.segmented_log.proofs.OpeningLemmas.{as_before, some_is}
use Rattle.segmented_log.proofs.RepairLemmas.{old_or_seen}
use Rattle.segmented_log.proofs.repairing.repair.Goals.{After-find_log, After-cut_off}
use Rattle.segmented_log.proofs.repairing.repair.Goals as goal

-- while the files are synced, each moment has what there was
synced : (g : _) (c : After-find_log g) → IsTrue g.F.Folder.honest
    → LeavesOnly g.F.Folder.moment g.F.Folder.left_since c.args.folder.now c.find_log.new.folder (IsOldOrSeen (g.F.Folder.may_leave c.args.folder.now) (g.F.Folder.seen c.args.folder.now))
synced g c h =
    let F = g.F.Folder in
    weaker F.moment F.left_since c.args.folder.now c.find_log.new.folder _ _ (λ l left. inl (as_before (F.may_leave c.args.folder.now) l left)) (c.find_log.ensures.any_moment h)

-- while the bytes are kept and cut off, too, or the same log
same_log : (g : _) (c : After-cut_off g) → IsTrue g.F.Folder.honest
    → LeavesOnly g.F.Folder.moment g.F.Folder.left_since c.args.folder.now c.cut_off.new.folder (IsOldOrSeen (g.F.Folder.may_leave c.args.folder.now) (g.F.Folder.seen c.args.folder.now))
same_log g c h =
    let F = g.F.Folder in
    let old = c.args.folder.now in
    let mid = c.find_log.new.folder in
    joined F.moment F.left_since old mid c.cut_off.new.folder _
    (weaker F.moment F.left_since old mid _ _ (λ l left. inl (as_before (F.may_leave old) l left)) (c.find_log.ensures.any_moment h))
    (weaker F.moment F.left_since mid c.cut_off.new.folder _ _
    (λ l o. old_or_seen (F.seen old) (F.seen mid) (λ m of. ap (λ s. s m) (c.in_ok-names.ensures.seen h)) (F.may_leave old) (F.may_leave mid)
    (λ d left. as_before (F.may_leave old) d (c.find_log.ensures.crash h d left)) l o) (c.cut_off.ensures.any_moment h))

pub returns-in_err-name-clause-any_moment : goal.returns-in_err-name-clause-any_moment
returns-in_err-name-clause-any_moment g c = λ h. same_log g (goal.at.returns-in_err-name-clause-any_moment g c).After-cut_off h

pub returns-clause-any_moment : goal.returns-clause-any_moment
returns-clause-any_moment g c = λ h. same_log g (goal.at.returns-clause-any_moment g c).After-cut_off h

pub returns-clause-log : goal.returns-clause-log
returns-clause-log g c = λ h l left. subst (λ s. KeepsLog s l) (c.in_ok-names.ensures.seen h) (c.in_ok-name.ensures.log h l left)

pub returns-clause-kept : goal.returns-clause-kept
returns-clause-kept g c = λ h bytes is l left.
    let there : g.F.Folder.seen c.args.folder.now tail_name ≡ Some c.in-Some.bytes.items = search rules in
    c.in_ok-name.ensures.kept h l left ∙ ap (λ b. Some (rest_of b)) (some_is c.in-Some.bytes.items bytes (sym there ∙ is))

pub returns-in_default-2-clause-whole : goal.returns-in_default-2-clause-whole
returns-in_default-2-clause-whole g c = λ h bytes is.
    let there : g.F.Folder.seen c.args.folder.now tail_name ≡ Some c.in-Some.bytes.items = search rules in
    subst (λ b. length (rest_of b) ≡ 0) (c.deref.ensures.value ∙ some_is c.in-Some.bytes.items bytes (sym there ∙ is)) (search rules)
