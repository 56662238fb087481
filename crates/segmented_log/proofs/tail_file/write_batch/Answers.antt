use Rattle.std.proofs.Common.{◌≡◌, ℕ, ◌≤◌, List, ◌++◌, length, take, drop, Some, ◌∙◌, ap, sym, subst, arith, take-append-drop}
use Rattle.std.specs.Prelude.{slice_range}
use Rattle.std.proofs.lemmas.Result.{on_ok_weaker}
use Rattle.std.proofs.lemmas.Slice.{between_to_end}
use Rattle.store_folder.specs.Moments.{LeavesOnly}
use Rattle.store_folder.specs.Publishing.{part, IsOldOrWhole}
use Rattle.segmented_log.specs.declared.commit.Commit.{Commit}
use Rattle.segmented_log.specs.Names.{tail_name}
use Rattle.segmented_log.specs.Settled.{TailIsKept, GrowsTail, PutsBatch}
use Rattle.segmented_log.proofs.tail_file.write_batch.Goals as goal

-- the tail that is on the disk, with the batch after it
with_batch : (tail : List ℕ) (end : ℕ) → end ≤ length tail → take end tail ++ slice_range tail end (length tail) ≡ tail
with_batch tail end within = ap (λ b. take end tail ++ b) (between_to_end tail end (length tail) (omega arith)) ∙ take-append-drop end tail

pub append_batch-requires : goal.append_batch-requires
append_batch-requires g c = λ h. (take c.args.end c.args.tail.now, c.requires.kept h)

pub returns-in-OneSync-clause-kept : goal.returns-in-OneSync-clause-kept
returns-in-OneSync-clause-kept g c = λ h.
    let F = g.F.Folder in
    let new = c.append_batch.new.folder in
    on_ok_weaker c.append_batch.result
    (λ kept. subst (λ t. TailIsKept (F.may_hold new) (F.may_leave new) (F.entry_kept new) (F.trusted new) t) (with_batch c.args.tail.now c.args.end c.requires.within)
    (kept (take c.args.end c.args.tail.now) (c.requires.kept h)))
    (c.append_batch.ensures.kept h)

pub returns-in-OneSync-clause-elsewhere : goal.returns-in-OneSync-clause-elsewhere
returns-in-OneSync-clause-elsewhere g c = λ h n beside ne. c.append_batch.ensures.elsewhere h n ne

pub returns-in-OneSync-clause-crash : goal.returns-in-OneSync-clause-crash
returns-in-OneSync-clause-crash g c = λ h l left.
    let from = c.append_batch.ensures.crash h l left in
    (from.0, from.1, λ n beside ne. from.2 n ne)

pub returns-in-OneSync-clause-any_moment : goal.returns-in-OneSync-clause-any_moment
returns-in-OneSync-clause-any_moment g c = λ h.
    let F = g.F.Folder in
    let old = c.args.folder.now in
    let tail = c.args.tail.now in
    subst (λ (x : Commit). LeavesOnly F.moment F.left_since old c.append_batch.new.folder (PutsBatch x (F.may_leave old) (take c.args.end tail) (drop c.args.end tail))) (sym c.in-OneSync.is)
    (subst (λ b. LeavesOnly F.moment F.left_since old c.append_batch.new.folder (GrowsTail (F.may_leave old) (take c.args.end tail) (length b)))
    (between_to_end tail c.args.end (length tail) (omega arith))
    (c.append_batch.ensures.any_moment h (take c.args.end tail) (c.requires.kept h)))

pub returns-in-TwoSyncs-clause-any_moment : goal.returns-in-TwoSyncs-clause-any_moment
returns-in-TwoSyncs-clause-any_moment g c = λ h.
    let F = g.F.Folder in
    let old = c.args.folder.now in
    let new = c.replace_tail.new.folder in
    let tail = c.args.tail.now in
    subst (λ (x : Commit). LeavesOnly F.moment F.left_since old new (PutsBatch x (F.may_leave old) (take c.args.end tail) (drop c.args.end tail))) (sym c.in-TwoSyncs.is)
    (subst (λ t. LeavesOnly F.moment F.left_since old new (IsOldOrWhole (F.may_leave old) (tail_name ++ part) tail_name (Some t))) (sym (take-append-drop c.args.end tail))
    (c.replace_tail.ensures.any_moment h))
