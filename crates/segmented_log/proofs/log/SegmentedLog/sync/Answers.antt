use Rattle.std.proofs.Common.{rules, inr, inl, ⊎_elim, ◌++◌, length, map, sym, ◌∙◌, ap, subst}
use Rattle.std.specs.Prelude.{IsErrOf}
use Rattle.std.proofs.lemmas.List.{append-nil}
use Rattle.std.proofs.lemmas.Result.{on_ok_weaker}
use Rattle.store_folder.proofs.Steps.{joined, weaker}
use Rattle.store_format.specs.Block.{doc}
use Rattle.store_base.proofs.ListLemmas.{risen_later}
use Rattle.std.specs.Result.{IsErrAnd}
use Rattle.segmented_log.specs.declared.error.LogError.TheVariants.{Full, Broken}
use Rattle.segmented_log.specs.Causes.{IsFault, HasNoRoomForLast, IsFailure}
use Rattle.segmented_log.specs.Names.{segment_name}
use Rattle.segmented_log.specs.Log.{IsLog, KeepsOrAdds}
use Rattle.segmented_log.proofs.NameLemmas.{segment_no_tail, segment_no_tail_beside}
use Rattle.segmented_log.proofs.CauseLemmas.{never, err_alone, broken_full}
use Rattle.segmented_log.proofs.FrameLemmas.{keeps_all, keeps_after_tail}
use Rattle.segmented_log.proofs.PackLemmas.{packs_after_tail}
use Rattle.segmented_log.proofs.SyncLemmas.{nothing_pending, always_ok}
use Rattle.segmented_log.proofs.log.SegmentedLog.sync.Goals as goal

pub returns-then-is_empty-clause-none_pending : goal.returns-then-is_empty-clause-none_pending
returns-then-is_empty-clause-none_pending g c =
    let none = sym (ap (λ v. v.pending) c.self.view_is)
    ∙ nothing_pending c.self.inside.tail.pending (length c.pending.result.now) c.is_empty.result c.is_empty.ensures c.if-is_empty.true (sym (ap length c.pending.ensures)) in
    always_ok c.seal_large.result (c.seal_large.ensures.pending ∙ none)

pub returns-then-is_empty-clause-acknowledged : goal.returns-then-is_empty-clause-acknowledged
returns-then-is_empty-clause-acknowledged g c = λ h.
    let old = c.args.self.now in
    let none = sym (ap (λ v. v.pending) c.self.view_is)
    ∙ nothing_pending c.self.inside.tail.pending (length c.pending.result.now) c.is_empty.result c.is_empty.ensures c.if-is_empty.true (sym (ap length c.pending.ensures)) in
    let same = sym (append-nil old.slots) ∙ ap (λ l. old.slots ++ map doc l) (sym none) in
    on_ok_weaker c.seal_large.result (λ slots. slots ∙ same) (c.seal_large.ensures.slots h)

pub returns-clause-any_moment : goal.returns-clause-any_moment
returns-clause-any_moment g c = λ h works.
    let F = g.F.Folder in
    let old = c.args.self.now in
    let mid = c.write_pending.new.self in
    let new = c.seal_large-2.new.self in
    joined F.moment F.left_since old.folder mid.folder new.folder (KeepsOrAdds old.commit old.first old.slots old.pending) (c.write_pending.ensures.any_moment h)
    (weaker F.moment F.left_since mid.folder new.folder _ _
    (λ l log. inr (inl (subst (λ n. IsLog n (old.slots ++ map doc old.pending) l) c.write_pending.ensures.first (subst (λ a. IsLog mid.first a l) (c.in_ok-write_pending.ensures.acknowledged h) log))))
    (c.seal_large-2.ensures.any_moment h))

pub returns-then-is_empty-clause-full : goal.returns-then-is_empty-clause-full
returns-then-is_empty-clause-full g c = λ h is.
    let old = c.args.self.now in
    let none = sym (ap (λ v. v.pending) c.self.view_is)
    ∙ nothing_pending c.self.inside.tail.pending (length c.pending.result.now) c.is_empty.result c.is_empty.ensures c.if-is_empty.true (sym (ap length c.pending.ensures)) in
    let same = sym (append-nil old.slots) ∙ ap (λ l. old.slots ++ map doc l) (sym none) in
    subst (λ a. HasNoRoomForLast a) same (c.seal_large.ensures.full h is)

pub returns-in_err-write_pending-clause-failed : goal.returns-in_err-write_pending-clause-failed
returns-in_err-write_pending-clause-failed g c = λ h is.
    let failed : IsErrAnd c.write_pending.result IsFailure = search rules in
    inl (c.write_pending.ensures.failed failed)

pub returns-in_err-write_pending-clause-full : goal.returns-in_err-write_pending-clause-full
returns-in_err-write_pending-clause-full g c = λ h is.
    let full : IsErrOf c.write_pending.result Full = search rules in
    absurd (never IsFault Full (λ of. of) c.write_pending.result c.write_pending.ensures.kind full)

pub returns-clause-failed : goal.returns-clause-failed
returns-clause-failed g c = λ h is.
    ⊎_elim (λ risen. inl (risen_later _ _ _ c.write_pending.ensures.failures risen))
    (λ new. inr (new.0, sym (c.write_pending.ensures.elsewhere h (segment_name new.0) (segment_no_tail_beside new.0) (segment_no_tail new.0)) ∙ new.1, new.2))
    (c.seal_large-2.ensures.failed h is)

pub returns-clause-full : goal.returns-clause-full
returns-clause-full g c = λ h is. subst (λ a. HasNoRoomForLast a) (c.in_ok-write_pending.ensures.acknowledged h) (c.seal_large-2.ensures.full h is)

pub returns-then-self-clause-full : goal.returns-then-self-clause-full
returns-then-self-clause-full g c = λ h is. absurd (err_alone Broken Full broken_full is)

pub returns-then-is_empty-clause-files : goal.returns-then-is_empty-clause-files
returns-then-is_empty-clause-files g c = λ h. c.seal_large.ensures.files h

pub returns-clause-files : goal.returns-clause-files
returns-clause-files g c = λ h. keeps_after_tail _ _ _ (c.write_pending.ensures.elsewhere h) (c.seal_large-2.ensures.files h)

pub returns-in_err-write_pending-clause-files : goal.returns-in_err-write_pending-clause-files
returns-in_err-write_pending-clause-files g c = λ h n beside tail others. c.write_pending.ensures.elsewhere h n beside tail

pub returns-then-self-clause-files : goal.returns-then-self-clause-files
returns-then-self-clause-files g c = λ h. keeps_all (g.F.Folder.seen c.args.self.now.folder)

pub returns-clause-packed : goal.returns-clause-packed
returns-clause-packed g c = λ h.
    let seen = g.F.Folder.seen in
    on_ok_weaker c.seal_large-2.result
    (packs_after_tail (seen c.args.self.now.folder) (seen c.write_pending.new.self.folder) (seen c.seal_large-2.new.self.folder) (c.write_pending.ensures.elsewhere h))
    (c.seal_large-2.ensures.packed h)
