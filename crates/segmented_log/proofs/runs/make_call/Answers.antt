use Rattle.std.proofs.Common.{◌∷◌, [], sym, ap, subst}
use Rattle.std.specs.Prelude.{IsTrue}
use Rattle.std.proofs.lemmas.Result.{on_ok_weaker}
use Rattle.store_folder.specs.Moments.{LeavesOnly}
use Rattle.store_folder.proofs.Steps.{started, weaker}
use Rattle.segmented_log.specs.declared.runs.Call.{Call}
use Rattle.segmented_log.specs.Runs.{batches_by, slots_of, Makes, HasBeginning}
use Rattle.segmented_log.proofs.RunLemmas.{has_itself}
use Rattle.segmented_log.proofs.CallLemmas.{makes_same, makes_synced, has_or_adds, has_dropped}
use Rattle.segmented_log.proofs.runs.make_call.Goals.{After-append}
use Rattle.segmented_log.proofs.runs.make_call.Goals as goal

pub returns-in-Sync-clause-any_moment : goal.returns-in-Sync-clause-any_moment
returns-in-Sync-clause-any_moment g c = λ h.
    let F = g.F.Folder in
    let old = c.args.log.now in
    let new = c.sync.new.self in
    subst (λ (x : Call). LeavesOnly F.moment F.left_since old.folder new.folder (HasBeginning old.commit old.first old.slots old.pending (x ∷ []))) (sym c.in-Sync.is)
    (weaker F.moment F.left_since old.folder new.folder _ _ (λ l keeps. has_or_adds old.commit old.first old.slots old.pending l keeps) (c.sync.ensures.any_moment h c.requires))

pub returns-in-Seal-clause-any_moment : goal.returns-in-Seal-clause-any_moment
returns-in-Seal-clause-any_moment g c = λ h.
    let F = g.F.Folder in
    let old = c.args.log.now in
    let new = c.seal.new.self in
    weaker F.moment F.left_since old.folder new.folder _ _ (λ l log. has_itself old.commit old.first old.slots old.pending (c.args.call.now ∷ []) l log) (c.seal.ensures.any_moment h c.requires)

pub returns-in-Compact-clause-any_moment : goal.returns-in-Compact-clause-any_moment
returns-in-Compact-clause-any_moment g c = λ h.
    let F = g.F.Folder in
    let old = c.args.log.now in
    let new = c.compact.new.self in
    weaker F.moment F.left_since old.folder new.folder _ _ (λ l log. has_itself old.commit old.first old.slots old.pending (c.args.call.now ∷ []) l log) (c.compact.ensures.any_moment h c.requires)

pub returns-in-DropBefore-clause-any_moment : goal.returns-in-DropBefore-clause-any_moment
returns-in-DropBefore-clause-any_moment g c = λ h.
    let F = g.F.Folder in
    let old = c.args.log.now in
    let new = c.drop_before.new.self in
    subst (λ (x : Call). LeavesOnly F.moment F.left_since old.folder new.folder (HasBeginning old.commit old.first old.slots old.pending (x ∷ []))) (sym c.in-DropBefore.is)
    (weaker F.moment F.left_since old.folder new.folder _ _ (λ l drops. has_dropped old.commit old.first c.in-DropBefore.number old.slots old.pending l drops)
    (c.drop_before.ensures.any_moment h c.requires))

-- an append writes nothing
leaves : (g : _) (c : After-append g) → IsTrue g.F.Folder.honest → LeavesOnly g.F.Folder.moment g.F.Folder.left_since c.args.log.now.folder c.append.new.self.folder
    (HasBeginning c.args.log.now.commit c.args.log.now.first c.args.log.now.slots c.args.log.now.pending (c.args.call.now ∷ []))
leaves g c h =
    let F = g.F.Folder in
    let old = c.args.log.now in
    let calls = c.args.call.now ∷ [] in
    subst (λ d. LeavesOnly F.moment F.left_since old.folder d (HasBeginning old.commit old.first old.slots old.pending calls)) (sym c.append.ensures.folder)
    (started F.moment F.left_since old.folder (HasBeginning old.commit old.first old.slots old.pending calls)
    (λ l left. has_itself old.commit old.first old.slots old.pending calls l (c.is_broken.ensures.durable h c.if-is_broken.false l (g.met.F.Folder.only_now old.folder l left))))

pub returns-in_err-append-in-Append-clause-any_moment : goal.returns-in_err-append-in-Append-clause-any_moment
returns-in_err-append-in-Append-clause-any_moment g c = leaves g (goal.at.returns-in_err-append-in-Append-clause-any_moment g c).After-append

pub returns-in_ok-append-in-Append-clause-any_moment : goal.returns-in_ok-append-in-Append-clause-any_moment
returns-in_ok-append-in-Append-clause-any_moment g c = leaves g (goal.at.returns-in_ok-append-in-Append-clause-any_moment g c).After-append

-- ---- what is acknowledged

pub returns-in-Sync-clause-slots : goal.returns-in-Sync-clause-slots
returns-in-Sync-clause-slots g c = λ h.
    let old = c.args.log.now in
    let new = c.sync.new.self in
    on_ok_weaker c.sync.result
    (λ slots. subst (λ (x : Call). Makes (x ∷ []) old.pending old.first old.slots new.first new.slots) (sym c.in-Sync.is)
    (makes_synced old.pending old.first new.first old.slots new.slots c.sync.ensures.first slots))
    (c.sync.ensures.acknowledged h)

pub returns-in-Seal-clause-slots : goal.returns-in-Seal-clause-slots
returns-in-Seal-clause-slots g c = λ h.
    let old = c.args.log.now in
    let new = c.seal.new.self in
    on_ok_weaker c.seal.result
    (makes_same (c.args.call.now ∷ []) old.pending old.first new.first old.slots new.slots (ap (λ (x : Call). slots_of (batches_by old.pending (x ∷ []))) c.in-Seal.is) c.seal.ensures.first)
    (c.seal.ensures.slots h)
