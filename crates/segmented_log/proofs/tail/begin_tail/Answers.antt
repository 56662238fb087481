use Rattle.std.proofs.Common.{◌++◌, Some, ap, subst}
use Rattle.std.specs.Prelude.{IsTrue}
use Rattle.std.specs.List.{flat_map}
use Rattle.store_folder.specs.Moments.{LeavesOnly}
use Rattle.store_folder.specs.Publishing.{part, IsOldOrWhole}
use Rattle.store_folder.proofs.Steps.{weaker}
use Rattle.log_tail.specs.Tail.{records_in}
use Rattle.segmented_log.specs.Names.{tail_name}
use Rattle.segmented_log.specs.Opening.{IsOldOrSeen}
use Rattle.segmented_log.proofs.OpeningLemmas.{keeps_begun}
use Rattle.segmented_log.proofs.tail.begin_tail.Goals.{After-deref}
use Rattle.segmented_log.proofs.tail.begin_tail.Goals as goal

-- while the tail is put into the folder, each moment has what there was, or the new log
begun_log : (g : _) (c : After-deref g) (new : _) → IsTrue g.F.Folder.honest
    → LeavesOnly g.F.Folder.moment g.F.Folder.left_since c.args.folder.now new (IsOldOrWhole (g.F.Folder.may_leave c.args.folder.now) (tail_name ++ part) tail_name (Some c.deref.result.now))
    → LeavesOnly g.F.Folder.moment g.F.Folder.left_since c.args.folder.now new (IsOldOrSeen (g.F.Folder.may_leave c.args.folder.now) (g.F.Folder.seen c.args.folder.now))
begun_log g c new h replacing =
    let F = g.F.Folder in
    let old = c.args.folder.now in
    let made = c.in_ok-bytes.ensures in
    weaker F.moment F.left_since old new _ _
    (λ l o. keeps_begun (F.seen old) (F.may_leave old) (c.requires.synced h) c.in_ok-bytes.bytes.items (c.requires.none h) made.0 made.1 (ap (λ b. flat_map records_in b) made.2) l
    (subst (λ b. IsOldOrWhole (F.may_leave old) (tail_name ++ part) tail_name (Some b) l) c.deref.ensures.value o)) replacing

pub returns-in_err-replace_tail-clause-any_moment : goal.returns-in_err-replace_tail-clause-any_moment
returns-in_err-replace_tail-clause-any_moment g c = λ h.
    begun_log g (goal.at.returns-in_err-replace_tail-clause-any_moment g c).After-deref c.replace_tail.new.folder h (c.replace_tail.ensures.any_moment h)

pub returns-clause-any_moment : goal.returns-clause-any_moment
returns-clause-any_moment g c = λ h. begun_log g (goal.at.returns-clause-any_moment g c).After-deref c.replace_tail.new.folder h (c.replace_tail.ensures.any_moment h)
