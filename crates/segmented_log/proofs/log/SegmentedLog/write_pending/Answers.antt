use Rattle.std.proofs.Common.{◌≡◌, inl, ℕ, List, ◌+◌, ◌≤◌, ◌<◌, ◌^◌, ◌++◌, length, map, take, drop, sym, ◌∙◌, ap, subst, arith, length-append}
use Rattle.std.specs.Prelude.{All, IsTrue}
use Rattle.std.proofs.lemmas.Bool.{OnFalse_at}
use Rattle.store_folder.specs.Folder.{ElsewhereOfBoth}
use Rattle.store_folder.specs.Moments.{LeavesOnly}
use Rattle.store_folder.specs.Publishing.{part}
use Rattle.store_folder.proofs.Steps.{started, weaker}
use Rattle.store_format.specs.Block.{doc}
use Rattle.log_tail.proofs.Scans.{ends_later}
use Rattle.log_tail.specs.Place.{EndsBy, AddsRecords}
use Rattle.log_tail.specs.Tail.{sum_of}
use Rattle.log_tail.specs.Heads.{head_body, headed}
use Rattle.segmented_log.specs.Names.{tail_name}
use Rattle.segmented_log.specs.Parts.{part_of}
use Rattle.segmented_log.specs.Log.{KeepsOrAdds}
use Rattle.segmented_log.specs.Settled.{TailIsKept, PutsBatch}
use Rattle.segmented_log.proofs.SyncLemmas.{settled_batch, folder_batch, slots_batch, log_on_disk, new_size, seam_front, seam_back}
use Rattle.segmented_log.proofs.TailLemmas.{keeps_or_adds}
use Rattle.segmented_log.proofs.log.SegmentedLog.write_pending.Goals.{After-place_batch, After-bytes}
use Rattle.segmented_log.proofs.CauseLemmas.{no_failure}
use Rattle.segmented_log.proofs.log.SegmentedLog.write_pending.Goals as goal

-- before the batch is written the log is as it was
nothing_written : (g : _) (c : After-place_batch g) → IsTrue g.F.Folder.honest
    → LeavesOnly g.F.Folder.moment g.F.Folder.left_since c.args.self.now.folder c.self.inside.folder
    (KeepsOrAdds c.args.self.now.commit c.args.self.now.first c.args.self.now.slots c.args.self.now.pending)
nothing_written g c h =
    let F = g.F.Folder in
    let log = c.self.inside in
    let known = OnFalse_at (ap (λ v. v.is_broken) c.self.view_is ∙ c.requires.works) c.self.invariant in
    subst (λ v. LeavesOnly F.moment F.left_since v.folder log.folder (KeepsOrAdds v.commit v.first v.slots v.pending)) c.self.view_is
    (started F.moment F.left_since log.folder _ (λ l left. inl (log_on_disk _ _ _ _ _ _ _ _ (known.1 h).0 l (g.met.F.Folder.only_now log.folder l left))))

pub returns-in_err-place_batch-clause-any_moment : goal.returns-in_err-place_batch-clause-any_moment
returns-in_err-place_batch-clause-any_moment g c = λ h. nothing_written g (goal.at.returns-in_err-place_batch-clause-any_moment g c).After-place_batch h

-- the batch with its head
abbrev batch : (g : _) → After-bytes g → List ℕ
batch g c = headed c.self.inside.tail_first (length c.self.inside.tail.bytes) c.self.inside.tail.pending

-- the size of the batch fits, and the tail has it after what it had
fits_is : (g : _) (c : After-bytes g) → sum_of c.self.inside.tail.pending < 2 ^ 64
fits_is g c = c.take_batch.ensures.fits

head_fits_is : (g : _) (c : After-bytes g) → sum_of (head_body c.self.inside.tail_first (length c.self.inside.tail.bytes) (length c.self.inside.tail.pending)) < 2 ^ 64
head_fits_is g c = c.take_batch.ensures.head_fits

new_is : (g : _) (c : After-bytes g) → c.take_batch.new.self.bytes ≡ c.self.inside.tail.bytes ++ batch g c
new_is g c = c.take_batch.ensures.bytes

written_is : (g : _) (c : After-bytes g) → c.bytes.result.now ≡ c.self.inside.tail.bytes ++ batch g c
written_is g c = c.bytes.ensures ∙ new_is g c

front_is : (g : _) (c : After-bytes g) → take c.len-end.result c.bytes.result.now ≡ c.self.inside.tail.bytes
front_is g c = seam_front c.bytes.result.now c.self.inside.tail.bytes (batch g c) c.len-end.result (written_is g c) (omega arith)

back_is : (g : _) (c : After-bytes g) → drop c.len-end.result c.bytes.result.now ≡ batch g c
back_is g c = seam_back c.bytes.result.now c.self.inside.tail.bytes (batch g c) c.len-end.result (written_is g c) (omega arith)

pub write_batch-requires-clause-within : goal.write_batch-requires-clause-within
write_batch-requires-clause-within g c = omega (
  arith,
  ap length (written_is g (goal.at.write_batch-requires-clause-within g c).After-bytes),
  length-append c.self.inside.tail.bytes (batch g (goal.at.write_batch-requires-clause-within g c).After-bytes),
)

pub write_batch-requires-clause-kept : goal.write_batch-requires-clause-kept
write_batch-requires-clause-kept g c = λ h.
    let F = g.F.Folder in
    let log = c.self.inside in
    let known = OnFalse_at (ap (λ v. v.is_broken) c.self.view_is ∙ c.requires.works) c.self.invariant in
    subst (λ t. TailIsKept (F.may_hold log.folder) (F.may_leave log.folder) (F.entry_kept log.folder) (F.trusted log.folder) t)
    (sym (front_is g (goal.at.write_batch-requires-clause-kept g c).After-bytes))
    (known.1 h).0.on_disk.tail_kept

-- while the batch is written, each moment has the old records, or the batch's after them
kept_or_added : (g : _) (c : After-bytes g) (new : _) → IsTrue g.F.Folder.honest
    → LeavesOnly g.F.Folder.moment g.F.Folder.left_since c.self.inside.folder new
    (PutsBatch c.self.inside.commit (g.F.Folder.may_leave c.self.inside.folder) (take c.len-end.result c.bytes.result.now) (drop c.len-end.result c.bytes.result.now))
    → LeavesOnly g.F.Folder.moment g.F.Folder.left_since c.args.self.now.folder new
    (KeepsOrAdds c.args.self.now.commit c.args.self.now.first c.args.self.now.slots c.args.self.now.pending)
kept_or_added g c new h putting =
    let F = g.F.Folder in
    let log = c.self.inside in
    let known = OnFalse_at (ap (λ v. v.is_broken) c.self.view_is ∙ c.requires.works) c.self.invariant in
    subst (λ v. LeavesOnly F.moment F.left_since v.folder new (KeepsOrAdds v.commit v.first v.slots v.pending)) c.self.view_is
    (weaker F.moment F.left_since log.folder new _ _
    (λ l puts. keeps_or_adds log.first (map (λ s. part_of s.first s.reader) log.segments.items) log.tail.bytes log.tail.pending (known.1 h).0.parts known.0.whole
    log.commit log.tail_first (length log.tail.bytes) known.0.pending_whole known.0.small (fits_is g c) (head_fits_is g c) (F.may_leave log.folder) (λ d left. (known.1 h).0.on_disk.outcomes d left) l
    (subst (λ b. PutsBatch log.commit (F.may_leave log.folder) log.tail.bytes b l) (back_is g c)
    (subst (λ t. PutsBatch log.commit (F.may_leave log.folder) t (drop c.len-end.result c.bytes.result.now) l) (front_is g c) puts))) putting)

pub returns-in_err-write_batch-clause-any_moment : goal.returns-in_err-write_batch-clause-any_moment
returns-in_err-write_batch-clause-any_moment g c = λ h.
    kept_or_added g (goal.at.returns-in_err-write_batch-clause-any_moment g c).After-bytes c.write_batch.new.folder h (c.write_batch.ensures.any_moment h)

pub returns-clause-any_moment : goal.returns-clause-any_moment
returns-clause-any_moment g c = λ h.
    kept_or_added g (goal.at.returns-clause-any_moment g c).After-bytes c.write_batch.new.folder h (c.write_batch.ensures.any_moment h)

pub returns-clause-elsewhere : goal.returns-clause-elsewhere
returns-clause-elsewhere g c = λ h.
    let F = g.F.Folder in
    subst (λ v. ElsewhereOfBoth (tail_name ++ part) tail_name (F.seen v.folder) (F.seen c.write_batch.new.folder)) c.self.view_is (c.write_batch.ensures.elsewhere h)

pub returns-in_err-write_batch-clause-elsewhere : goal.returns-in_err-write_batch-clause-elsewhere
returns-in_err-write_batch-clause-elsewhere g c = λ h.
    let F = g.F.Folder in
    subst (λ v. ElsewhereOfBoth (tail_name ++ part) tail_name (F.seen v.folder) (F.seen c.write_batch.new.folder)) c.self.view_is (c.write_batch.ensures.elsewhere h)

pub returns-clause-tail : goal.returns-clause-tail
returns-clause-tail g c =
    new_size c.self.inside.tail_first (length c.self.inside.tail.bytes) c.self.inside.tail.bytes c.self.inside.tail.pending c.take_batch.new.self.bytes
    (new_is g (goal.at.returns-clause-tail g c).After-bytes)
    ∙ ap (λ v. v.tail_bytes + 50 + v.batch_bytes) c.self.view_is

pub returns-clause-acknowledged : goal.returns-clause-acknowledged
returns-clause-acknowledged g c = λ h.
    let log = c.self.inside in
    let known = OnFalse_at (ap (λ v. v.is_broken) c.self.view_is ∙ c.requires.works) c.self.invariant in
    let here = (goal.at.returns-clause-acknowledged g c).After-bytes in
    slots_batch log.sealed log.tail_first log.next log.tail.bytes log.tail.pending c.take_batch.new.self.bytes log.places.items known.0 (fits_is g here)
    log.tail_first (length log.tail.bytes) (head_fits_is g here) (new_is g here)
    log.first (map (λ s. part_of s.first s.reader) log.segments.items) (known.1 h).0.parts
    ∙ ap (λ v. v.slots ++ map doc v.pending) c.self.view_is

pub invariant_of-self-2 : goal.invariant_of-self-2
invariant_of-self-2 g c =
    let F = g.F.Folder in
    let log = c.self.inside in
    let known = OnFalse_at (ap (λ v. v.is_broken) c.self.view_is ∙ c.requires.works) c.self.invariant in
    let s = known.0 in
    let tail = log.tail.bytes in
    let body = log.tail.pending in
    let new = c.take_batch.new.self.bytes in
    let new_folder = c.write_batch.new.folder in
    let later = c.place_batch.new.places.items in
    let here = (goal.at.invariant_of-self-2 g c).After-bytes in
    let is = new_is g here in
    let end = length tail + 50 + length body in
    let adds : AddsRecords body (length tail + 50) log.places.items later = c.in_ok-place_batch.ensures.records in
    let within : All (EndsBy end) later = c.in_ok-place_batch.ensures.within (ends_later (length tail) (length tail + 50) log.places.items (omega arith) s.within) in
    let size : end ≤ length new = omega (arith, new_size log.tail_first (length tail) tail body new is) in (
      settled_batch log.sealed log.tail_first log.next tail body new log.places.items s (fits_is g here) log.tail_first (length tail) (head_fits_is g here) is later
          c.take_batch.new.self.pending end adds within size c.take_batch.ensures.none_pending,
      λ h.
          let kept = subst (λ t. TailIsKept (F.may_hold new_folder) (F.may_leave new_folder) (F.entry_kept new_folder) (F.trusted new_folder) t) (written_is g here)
          (c.in_ok-write_batch.ensures.kept h) in (
            folder_batch log.sealed log.tail_first log.next tail body new log.places.items s (fits_is g here) log.tail_first (length tail) (head_fits_is g here) is
                log.first (map (λ x. part_of x.first x.reader) log.segments.items)
                (F.may_hold log.folder) (F.may_hold new_folder) (F.may_leave log.folder) (F.may_leave new_folder) (F.entry_kept log.folder) (F.entry_kept new_folder) (F.trusted log.folder)
                (F.trusted new_folder) (known.1 h).0 kept
                (c.write_batch.ensures.crash h),
            (known.1 h).1,
            (known.1 h).2,
          ),
    )

pub returns-in_err-place_batch-clause-failed : goal.returns-in_err-place_batch-clause-failed
returns-in_err-place_batch-clause-failed g c = λ is. absurd (no_failure _ c.from_residual.ensures.1 is)
