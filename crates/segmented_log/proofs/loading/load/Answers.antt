use Rattle.std.proofs.Common.{◌≡◌, inl, inr, ⊎_elim, ◌++◌, subst}
use Rattle.std.specs.Prelude.{IsTrue}
use Rattle.std.proofs.lemmas.Result.{on_ok_weaker}
use Rattle.store_base.proofs.ListLemmas.{risen_later}
use Rattle.store_folder.specs.Folder.{ElsewhereOfBoth}
use Rattle.store_folder.specs.Publishing.{part}
use Rattle.store_folder.proofs.Steps.{weaker, joined}
use Rattle.segmented_log.specs.Names.{tail_name}
use Rattle.segmented_log.specs.Log.{KeepsLog}
use Rattle.segmented_log.specs.Opening.{IsOldOrSeen, IsNoLog, HasFullTail, HasSegments, HasSoundTail}
use Rattle.segmented_log.proofs.OpeningLemmas.{as_before}
use Rattle.segmented_log.proofs.RunLemmas.{always_err}
use Rattle.segmented_log.proofs.SyncLemmas.{always_ok}
use Rattle.segmented_log.proofs.loading.load.Goals.{After-load_synced}
use Rattle.segmented_log.proofs.loading.load.Goals as goal

-- what a look sees stays while the files are synced
same_look : (g : _) (c : After-load_synced g) → IsTrue g.F.Folder.honest → g.F.Folder.seen c.find_log.new.folder ≡ g.F.Folder.seen c.args.folder.now
same_look g c h = c.in_ok-names.ensures.seen h

pub returns-in_err-names-clause-any_moment : goal.returns-in_err-names-clause-any_moment
returns-in_err-names-clause-any_moment g c = λ h.
    let F = g.F.Folder in
    weaker F.moment F.left_since c.args.folder.now c.find_log.new.folder _ _ (λ l left. inl (as_before (F.may_leave c.args.folder.now) l left)) (c.find_log.ensures.any_moment h)

pub returns-clause-any_moment : goal.returns-clause-any_moment
returns-clause-any_moment g c = λ h.
    let F = g.F.Folder in
    let old = c.args.folder.now in
    let mid = c.find_log.new.folder in
    let new = c.load_synced.new.folder in
    let same = same_look g (goal.at.returns-clause-any_moment g c).After-load_synced h in
    joined F.moment F.left_since old mid new (IsOldOrSeen (F.may_leave old) (F.seen old))
    (weaker F.moment F.left_since old mid _ _ (λ l left. inl (as_before (F.may_leave old) l left)) (c.find_log.ensures.any_moment h))
    (weaker F.moment F.left_since mid new _ _
    (λ l. ⊎_elim (λ was. inl (was.0, c.find_log.ensures.crash h was.0 was.1, was.2)) (λ keeps. inr (subst (λ s. KeepsLog s l) same keeps))) (c.load_synced.ensures.any_moment h))

pub returns-clause-kept : goal.returns-clause-kept
returns-clause-kept g c = λ h.
    on_ok_weaker c.load_synced.result
    (λ kept l left. subst (λ s. KeepsLog s l) (same_look g (goal.at.returns-clause-kept g c).After-load_synced h) (kept l left)) (c.load_synced.ensures.kept h)

pub returns-clause-no_log : goal.returns-clause-no_log
returns-clause-no_log g c = λ h is.
    subst IsNoLog (same_look g (goal.at.returns-clause-no_log g c).After-load_synced h) (c.load_synced.ensures.no_log h is)

pub returns-clause-full : goal.returns-clause-full
returns-clause-full g c = λ h is.
    subst HasFullTail (same_look g (goal.at.returns-clause-full g c).After-load_synced h) (c.load_synced.ensures.full h is)

pub returns-clause-sound : goal.returns-clause-sound
returns-clause-sound g c = λ h.
    on_ok_weaker c.load_synced.result (λ sound. subst HasSoundTail (same_look g (goal.at.returns-clause-sound g c).After-load_synced h) sound)
    (c.load_synced.ensures.sound h c.in_ok-names.ensures.cut)

pub returns-clause-elsewhere : goal.returns-clause-elsewhere
returns-clause-elsewhere g c = λ h.
    always_ok c.load_synced.result
    (subst (λ s. ElsewhereOfBoth (tail_name ++ part) tail_name s (g.F.Folder.seen c.load_synced.new.folder)) (same_look g (goal.at.returns-clause-elsewhere g c).After-load_synced h)
    (c.load_synced.ensures.elsewhere h))

pub returns-clause-elsewhere_err : goal.returns-clause-elsewhere_err
returns-clause-elsewhere_err g c = λ h.
    always_err c.load_synced.result
    (inl (subst (λ s. ElsewhereOfBoth (tail_name ++ part) tail_name s (g.F.Folder.seen c.load_synced.new.folder))
    (same_look g (goal.at.returns-clause-elsewhere_err g c).After-load_synced h) (c.load_synced.ensures.elsewhere h)))

pub returns-clause-failed : goal.returns-clause-failed
returns-clause-failed g c = λ h readable is.
    ⊎_elim (λ risen. inl (risen_later _ _ _ c.find_log.ensures.failures risen))
    (λ has. inr (subst HasSegments (same_look g (goal.at.returns-clause-failed g c).After-load_synced h) has)) (c.load_synced.ensures.failed h readable is)
