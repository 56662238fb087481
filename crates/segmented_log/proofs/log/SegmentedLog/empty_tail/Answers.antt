use Rattle.std.proofs.Common.{◌≡◌, [], ◌+◌, ◌++◌, length, map, Some, refl, sym, ◌∙◌, ap, subst, arith}
use Rattle.std.specs.Prelude.{All, IsTrue}
use Rattle.std.specs.Bool.{OnFalse}
use Rattle.std.proofs.lemmas.Bool.{OnFalse_at}
use Rattle.std.specs.List.{flat_map}
use Rattle.store_folder.specs.Moments.{LeavesOnly}
use Rattle.store_folder.proofs.Steps.{weaker}
use Rattle.store_folder.specs.Folder.{ElsewhereOfBoth}
use Rattle.store_folder.specs.Publishing.{part, IsOldOrWhole}
use Rattle.log_tail.specs.Tail.{records_in, records_of}
use Rattle.segmented_log.specs.Names.{tail_name}
use Rattle.segmented_log.specs.Compacting.{AreNext}
use Rattle.segmented_log.specs.Parts.{part_of, tail_end, end_from, log_slots}
use Rattle.segmented_log.specs.Log.{IsLog}
use Rattle.segmented_log.specs.Settled.{TailIsKept, IsSettledTail, IsSettledFolder}
use Rattle.segmented_log.proofs.SyncLemmas.{log_stays, begins_there, all_sealed, settled_empty, folder_empty}
use Rattle.segmented_log.proofs.PartLemmas.{emptied_slots}
use Rattle.segmented_log.proofs.SealLemmas.{replaced_log}
use Rattle.segmented_log.proofs.log.SegmentedLog.empty_tail.Goals.{After-deref, After-restart}
use Rattle.segmented_log.proofs.CauseLemmas.{no_failure}
use Rattle.segmented_log.proofs.log.SegmentedLog.empty_tail.Goals as goal

pub returns-in_err-tail-clause-any_moment : goal.returns-in_err-tail-clause-any_moment
returns-in_err-tail-clause-any_moment g c = λ h.
    let settled = (OnFalse_at (ap (λ v. v.is_broken) c.self.view_is ∙ c.requires.works) c.self.invariant).1 h in
    subst (λ v. LeavesOnly g.F.Folder.moment g.F.Folder.left_since v.folder c.self.inside.folder (IsLog v.first v.slots)) c.self.view_is
    (log_stays _ _ _ _ _ _ _ _ _ _ settled.0 c.self.inside.folder (g.met.F.Folder.only_now c.self.inside.folder))

-- what the log knows before the tail is replaced
known_is : (g : _) (c : After-deref g) → IsSettledTail c.self.inside.sealed c.self.inside.tail_first c.self.inside.next c.self.inside.tail.bytes c.self.inside.places.items c.self.inside.tail.pending
    × (IsTrue g.F.Folder.honest → IsSettledFolder (g.F.Folder.may_hold c.self.inside.folder) (g.F.Folder.may_leave c.self.inside.folder) (g.F.Folder.entry_kept c.self.inside.folder)
    (g.F.Folder.trusted c.self.inside.folder)
    c.self.inside.first c.self.inside.sealed (map (λ x. part_of x.first x.reader) c.self.inside.segments.items) c.self.inside.tail.bytes
    × All (λ x. IsTrue x.reader.file.honest) c.self.inside.segments.items
    × OnFalse c.self.inside.may_overlap (AreNext c.self.inside.first (map (λ x. part_of x.first x.reader) c.self.inside.segments.items)))
known_is g c = OnFalse_at (ap (λ v. v.is_broken) c.self.view_is ∙ c.requires.works) c.self.invariant

end_is : (g : _) (c : After-deref g) → c.self.inside.tail_first + c.len-2.result ≡ c.self.inside.tail_first + length c.self.inside.places.items
end_is g c = omega arith

-- no record is left that no segment has
sealed_is : (g : _) (c : After-deref g) → c.self.inside.sealed ≡ c.self.inside.tail_first + c.len-2.result
sealed_is g c = omega (arith, (known_is g c).0.high, end_is g c, ap (λ v. v.unsealed) c.self.view_is ∙ c.requires.sealed)

none_is : (g : _) (c : After-deref g) → records_of c.in_ok-tail.tail.items ≡ []
none_is g c = ap (λ b. flat_map records_in b) c.in_ok-tail.ensures.2

-- the segments have all records
all_are_sealed : (g : _) (c : After-deref g) → IsTrue g.F.Folder.honest
    → end_from c.self.inside.first (map (λ x. part_of x.first x.reader) c.self.inside.segments.items) ≡ tail_end c.self.inside.tail.bytes
all_are_sealed g c h =
    let made = c.in_ok-tail.ensures in
    all_sealed _ _ _ _ _ _ (known_is g c).0 _ _ (end_is g c) (sealed_is g c) made.0 made.1 (none_is g c) made.3 c.self.inside.first
    (map (λ x. part_of x.first x.reader) c.self.inside.segments.items) ((known_is g c).1 h).0.sealed_is

-- while the tail is replaced, each moment has the same log
same_log : (g : _) (c : After-deref g) (new : _) → IsTrue g.F.Folder.honest
    → LeavesOnly g.F.Folder.moment g.F.Folder.left_since c.self.inside.folder new (IsOldOrWhole (g.F.Folder.may_leave c.self.inside.folder) (tail_name ++ part) tail_name (Some c.deref.result.now))
    → LeavesOnly g.F.Folder.moment g.F.Folder.left_since c.args.self.now.folder new (IsLog c.args.self.now.first c.args.self.now.slots)
same_log g c new h replacing =
    let F = g.F.Folder in
    let log = c.self.inside in
    let file = c.in_ok-tail.tail.items in
    let made = c.in_ok-tail.ensures in
    let settled = ((known_is g c).1 h).0 in
    subst (λ v. LeavesOnly F.moment F.left_since v.folder new (IsLog v.first v.slots)) c.self.view_is
    (weaker F.moment F.left_since log.folder new _ _
    (λ l o. replaced_log log.first (map (λ x. part_of x.first x.reader) log.segments.items) log.tail.bytes file settled.parts (all_are_sealed g c h) made.0
    (begins_there _ _ _ _ _ _ (known_is g c).0 file _ (end_is g c) (sealed_is g c) made.0 made.1 (none_is g c) made.3) (none_is g c)
    (F.may_leave log.folder) (λ d left. settled.on_disk.outcomes d left) l
    (subst (λ b. IsOldOrWhole (F.may_leave log.folder) (tail_name ++ part) tail_name (Some b) l) c.deref.ensures.value o)) replacing)

pub returns-in_err-replace_tail-clause-any_moment : goal.returns-in_err-replace_tail-clause-any_moment
returns-in_err-replace_tail-clause-any_moment g c = λ h.
    same_log g (goal.at.returns-in_err-replace_tail-clause-any_moment g c).After-deref c.replace_tail.new.folder h (c.replace_tail.ensures.any_moment h)

pub returns-clause-any_moment : goal.returns-clause-any_moment
returns-clause-any_moment g c = λ h. same_log g (goal.at.returns-clause-any_moment g c).After-deref c.replace_tail.new.folder h (c.replace_tail.ensures.any_moment h)

pub returns-then-len-eq-HEADER-clause-elsewhere : goal.returns-then-len-eq-HEADER-clause-elsewhere
returns-then-len-eq-HEADER-clause-elsewhere g c = λ h n no_part no_tail. refl

pub returns-in_err-tail-clause-elsewhere : goal.returns-in_err-tail-clause-elsewhere
returns-in_err-tail-clause-elsewhere g c = λ h.
    let look = g.F.Folder.seen c.self.inside.folder in
    subst (λ v. ElsewhereOfBoth (tail_name ++ part) tail_name (g.F.Folder.seen v.folder) look) c.self.view_is (λ n no_part no_tail. refl)

pub returns-in_err-replace_tail-clause-elsewhere : goal.returns-in_err-replace_tail-clause-elsewhere
returns-in_err-replace_tail-clause-elsewhere g c = λ h.
    subst (λ v. ElsewhereOfBoth (tail_name ++ part) tail_name (g.F.Folder.seen v.folder) (g.F.Folder.seen c.replace_tail.new.folder)) c.self.view_is (c.replace_tail.ensures.elsewhere h)

pub returns-clause-elsewhere : goal.returns-clause-elsewhere
returns-clause-elsewhere g c = λ h.
    subst (λ v. ElsewhereOfBoth (tail_name ++ part) tail_name (g.F.Folder.seen v.folder) (g.F.Folder.seen c.replace_tail.new.folder)) c.self.view_is (c.replace_tail.ensures.elsewhere h)

-- the new tail is the file's, in memory
new_is : (g : _) (c : After-restart g) → c.restart.new.self.bytes ≡ c.in_ok-tail.tail.items
new_is g c = c.restart.ensures.bytes ∙ c.deref-2.ensures.value

pub returns-clause-tail : goal.returns-clause-tail
returns-clause-tail g c = ap length (new_is g (goal.at.returns-clause-tail g c).After-restart) ∙ c.in_ok-tail.ensures.4

pub returns-clause-slots : goal.returns-clause-slots
returns-clause-slots g c = λ h.
    let here = (goal.at.returns-clause-slots g c).After-deref in
    let first = c.self.inside.first in
    let segments = map (λ x. part_of x.first x.reader) c.self.inside.segments.items in
    ap (λ t. log_slots first segments t) (new_is g (goal.at.returns-clause-slots g c).After-restart)
    ∙ emptied_slots first segments c.self.inside.tail.bytes ((known_is g here).1 h).0.parts c.in_ok-tail.tail.items (all_are_sealed g here h) (none_is g here)
    ∙ ap (λ v. v.slots) c.self.view_is

pub invariant_of-self-2 : goal.invariant_of-self-2
invariant_of-self-2 g c =
    let here = (goal.at.invariant_of-self-2 g c).After-deref in
    let F = g.F.Folder in
    let log = c.self.inside in
    let end = log.tail_first + c.len-2.result in
    let segments = map (λ x. part_of x.first x.reader) log.segments.items in
    let known = known_is g here in
    let made = c.in_ok-tail.ensures in
    let new = c.replace_tail.new.folder in
    let is = sym (new_is g (goal.at.invariant_of-self-2 g c).After-restart) in (
      subst (λ p. IsSettledTail log.sealed end log.next c.restart.new.self.bytes c.clear.new.self.items p) (sym c.restart.ensures.pending)
          (subst (λ t. IsSettledTail log.sealed end log.next t c.clear.new.self.items log.tail.pending) is
          (settled_empty _ _ _ _ _ _ known.0 _ _ (end_is g here) (sealed_is g here) made.0 made.1 (none_is g here) made.3 c.clear.new.self.items c.clear.ensures.items)),
      λ h. (
        subst (λ t. IsSettledFolder (F.may_hold new) (F.may_leave new) (F.entry_kept new) (F.trusted new) log.first log.sealed segments t) is
            (folder_empty _ _ _ _ _ _ known.0 _ _ (end_is g here) (sealed_is g here) made.0 made.1 (none_is g here) made.3 log.first segments
            (F.may_hold log.folder) (F.may_hold new) (F.may_leave log.folder) (F.may_leave new) (F.entry_kept log.folder) (F.entry_kept new) (F.trusted log.folder) (F.trusted new) (known.1 h).0
            (subst (λ b. TailIsKept (F.may_hold new) (F.may_leave new) (F.entry_kept new) (F.trusted new) b) c.deref.ensures.value (c.in_ok-replace_tail.ensures.kept h))
            (c.replace_tail.ensures.crash h)),
        (known.1 h).1,
        (known.1 h).2,
      ),
    )

pub returns-then-len-eq-HEADER-clause-any_moment : goal.returns-then-len-eq-HEADER-clause-any_moment
returns-then-len-eq-HEADER-clause-any_moment g c = λ h.
    let settled = (OnFalse_at (ap (λ v. v.is_broken) c.self.view_is ∙ c.requires.works) c.self.invariant).1 h in
    subst (λ v. LeavesOnly g.F.Folder.moment g.F.Folder.left_since v.folder v.folder (IsLog v.first v.slots)) c.self.view_is
    (log_stays _ _ _ _ _ _ _ _ _ _ settled.0 c.self.inside.folder (g.met.F.Folder.only_now c.self.inside.folder))

pub returns-in_err-tail-clause-failed : goal.returns-in_err-tail-clause-failed
returns-in_err-tail-clause-failed g c = λ is. absurd (no_failure _ c.from_residual.ensures.1 is)
