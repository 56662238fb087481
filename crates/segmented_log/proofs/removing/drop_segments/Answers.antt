use Rattle.std.proofs.Common.{◌≡◌, inl, sym, subst}
use Rattle.std.specs.Prelude.{IsTrue}
use Rattle.std.proofs.lemmas.Result.{on_ok_weaker, IfOk-weaker}
use Rattle.store_folder.proofs.Steps.{weaker, joined}
use Rattle.segmented_log.specs.Log.{IsLog}
use Rattle.segmented_log.specs.Opening.{IsNoLog}
use Rattle.segmented_log.specs.Dropping.{BeginsAt}
use Rattle.segmented_log.proofs.FoundLemmas.{one_look}
use Rattle.segmented_log.proofs.RemoveLemmas.{still_old}
use Rattle.segmented_log.proofs.removing.drop_segments.Goals.{After-drop_found}
use Rattle.segmented_log.proofs.removing.drop_segments.Goals as goal

-- what a look sees stays while the files are synced
same_look : (g : _) (c : After-drop_found g) → IsTrue g.F.Folder.honest → g.F.Folder.seen c.sync_found_files.new.folder ≡ g.F.Folder.seen c.args.folder.now
same_look g c h = one_look _ _ (c.in_ok-is_kept.ensures.seen h)

pub returns-clause-log : goal.returns-clause-log
returns-clause-log g c = λ h.
    on_ok_weaker c.drop_found.result
    (λ loses first all log. loses.log first all (subst (λ s. IsLog first all s) (sym (same_look g (goal.at.returns-clause-log g c).After-drop_found h)) log)) (c.drop_found.ensures.loses h)

pub returns-clause-numbers : goal.returns-clause-numbers
returns-clause-numbers g c = λ h.
    IfOk-weaker c.drop_found.result _ _ (λ gone both. (subst (λ s. BeginsAt gone.start s) (same_look g (goal.at.returns-clause-numbers g c).After-drop_found h) both.0, both.1))
    (c.drop_found.ensures.numbers h)

pub returns-clause-any_moment : goal.returns-clause-any_moment
returns-clause-any_moment g c = λ h.
    let F = g.F.Folder in
    let old = c.args.folder.now in
    let mid = c.sync_found_files.new.folder in
    let new = c.drop_found.new.folder in
    joined F.moment F.left_since old mid new _
    (weaker F.moment F.left_since old mid _ _ (λ l left. still_old c.args.number (F.may_leave old) l left) (c.sync_found_files.ensures.any_moment h))
    (weaker F.moment F.left_since mid new _ _ (λ l is. (is.0, c.sync_found_files.ensures.crash h is.0 is.1, is.2)) (c.drop_found.ensures.any_moment h))

pub returns-clause-no_log : goal.returns-clause-no_log
returns-clause-no_log g c = λ h is. subst IsNoLog (same_look g (goal.at.returns-clause-no_log g c).After-drop_found h) (c.drop_found.ensures.no_log h is)

pub sync_found_files-requires-clause-whole : goal.sync_found_files-requires-clause-whole
sync_found_files-requires-clause-whole g c = λ h is. inl (c.in_ok-tail.ensures.whole h is)
