use Rattle.std.proofs.Common.{◌≡◌, inl, Some, length, drop, string_bytes, refl, sym, ◌∙◌, ap, subst, arith}
use Rattle.std.specs.Prelude.{IsTrue}
use Rattle.std.proofs.lemmas.Slice.{between_to_end}
use Rattle.store_folder.specs.Moments.{LeavesOnly}
use Rattle.store_folder.proofs.Steps.{weaker, joined}
use Rattle.segmented_log.specs.Names.{tail_name}
use Rattle.segmented_log.specs.Opening.{IsOldOrSeen, IsTailOf}
use Rattle.segmented_log.proofs.NameLemmas.{cut_no_tail, cut_no_tail_beside}
use Rattle.segmented_log.proofs.OpeningLemmas.{keeps_loaded}
use Rattle.segmented_log.proofs.RepairLemmas.{keeps_seen, old_or_seen, still_synced}
use Rattle.segmented_log.proofs.repairing.cut_off.Goals.{After-repair_tail}
use Rattle.segmented_log.proofs.repairing.cut_off.Goals as goal

-- while the bytes are kept and then cut off, each moment has what there was, or the same log
same_log : (g : _) (c : After-repair_tail g) → IsTrue g.F.Folder.honest
    → LeavesOnly g.F.Folder.moment g.F.Folder.left_since c.args.folder.now c.repair_tail.new.folder (IsOldOrSeen (g.F.Folder.may_leave c.args.folder.now) (g.F.Folder.seen c.args.folder.now))
same_log g c h =
    let F = g.F.Folder in
    let old = c.args.folder.now in
    let mid = c.keep_cut.new.folder in
    joined F.moment F.left_since old mid c.repair_tail.new.folder _
    (weaker F.moment F.left_since old mid _ _ (λ l was. inl was) (c.keep_cut.ensures.any_moment h))
    (weaker F.moment F.left_since mid c.repair_tail.new.folder _ _
    (λ l o. old_or_seen (F.seen old) (F.seen mid) (c.keep_cut.ensures.seen h) (F.may_leave old) (F.may_leave mid) (c.keep_cut.ensures.crash h) l o) (c.repair_tail.ensures.any_moment h))

pub returns-in_err-repair_tail-clause-any_moment : goal.returns-in_err-repair_tail-clause-any_moment
returns-in_err-repair_tail-clause-any_moment g c = λ h. same_log g (goal.at.returns-in_err-repair_tail-clause-any_moment g c).After-repair_tail h

pub returns-clause-any_moment : goal.returns-clause-any_moment
returns-clause-any_moment g c = λ h. same_log g (goal.at.returns-clause-any_moment g c).After-repair_tail h

pub returns-clause-kept : goal.returns-clause-kept
returns-clause-kept g c = λ h l left.
    let from = c.repair_tail.ensures.crash h l left in
    let cut = c.in_ok-name.ensures.cut in
    let name = string_bytes c.in_ok-name.name in
    from.2 name (λ e. cut_no_tail_beside cut.0 (sym cut.1 ∙ e)) (λ e. cut_no_tail cut.0 (sym cut.1 ∙ e))
    ∙ c.in_ok-keep_cut.ensures.kept h from.0 from.1
    ∙ ap (λ b. Some b) (between_to_end c.deref.result.now c.args.end (length c.deref.result.now) (omega arith) ∙ ap (λ b. drop c.args.end b) c.deref.ensures.value ∙ c.requires.rest)

pub returns-clause-log : goal.returns-clause-log
returns-clause-log g c = λ h l left.
    let F = g.F.Folder in
    let old = c.args.folder.now in
    let mid = c.keep_cut.new.folder in
    let t = c.in_ok-repair_tail.ensures in
    let seen_tail : F.seen mid tail_name ≡ Some c.args.bytes.items = c.keep_cut.ensures.seen h tail_name (inl refl) ∙ c.requires.file h in
    let of = subst (λ o. IsTailOf o c.in_ok-repair_tail.field-0.bytes.items) (sym seen_tail) t.same in
    keeps_seen (F.seen old) (F.seen mid) (c.keep_cut.ensures.seen h) l
    (keeps_loaded (F.seen mid) (F.may_leave mid)
    (still_synced (F.seen old) (F.seen mid) (c.keep_cut.ensures.seen h) (F.may_leave old) (F.may_leave mid) (c.keep_cut.ensures.crash h) (c.requires.synced h))
    c.in_ok-repair_tail.field-0.bytes.items t.tail.is_tail of (F.may_leave c.repair_tail.new.folder) (c.repair_tail.ensures.crash h) (t.kept h).outcomes l left)
