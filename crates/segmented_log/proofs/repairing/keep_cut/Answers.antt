use Rattle.std.proofs.Common.{◌≡◌, ℕ, List, ◌++◌, ◌∙◌, ap, sym}
use Rattle.store_folder.specs.Folder.{Look, ElsewhereOfBoth}
use Rattle.store_folder.specs.Publishing.{part}
use Rattle.store_folder.proofs.Steps.{weaker}
use Rattle.segmented_log.specs.Opening.{IsOfLog}
use Rattle.segmented_log.proofs.RepairLemmas.{log_elsewhere}
use Rattle.segmented_log.proofs.repairing.keep_cut.Goals.{After-replace}
use Rattle.segmented_log.proofs.repairing.keep_cut.Goals as goal

-- the log's files stay, in whichever looks
stay : (g : _) (c : After-replace g) (old new : Look) → ElsewhereOfBoth c.as_str.result.now c.as_str-2.result.now old new → (m : List ℕ) → IsOfLog m → new m ≡ old m
stay g c old new =
    log_elsewhere c.as_str-2.result.now c.as_str.result.now old new (c.requires.0, c.as_str-2.ensures.value ∙ c.requires.1)
    (c.as_str.ensures.value ∙ c.in_ok-beside.ensures ∙ ap (λ (l : List ℕ). l ++ part) (sym c.as_str-2.ensures.value))

pub returns-in_err-replace-clause-seen : goal.returns-in_err-replace-clause-seen
returns-in_err-replace-clause-seen g c = λ h.
    stay g (goal.at.returns-in_err-replace-clause-seen g c).After-replace (g.F.Folder.seen c.args.folder.now) (g.F.Folder.seen c.replace.new.folder) (c.replace.ensures.elsewhere h)

pub returns-clause-seen : goal.returns-clause-seen
returns-clause-seen g c = λ h.
    stay g (goal.at.returns-clause-seen g c).After-replace (g.F.Folder.seen c.args.folder.now) (g.F.Folder.seen c.replace.new.folder) (c.replace.ensures.elsewhere h)

pub returns-in_err-replace-clause-crash : goal.returns-in_err-replace-clause-crash
returns-in_err-replace-clause-crash g c = λ h l left.
    let from = c.replace.ensures.crash h l left in (from.0, from.1, stay g (goal.at.returns-in_err-replace-clause-crash g c).After-replace from.0 l from.2)

pub returns-clause-crash : goal.returns-clause-crash
returns-clause-crash g c = λ h l left. let from = c.replace.ensures.crash h l left in (from.0, from.1, stay g (goal.at.returns-clause-crash g c).After-replace from.0 l from.2)

pub returns-in_err-replace-clause-any_moment : goal.returns-in_err-replace-clause-any_moment
returns-in_err-replace-clause-any_moment g c = λ h.
    let F = g.F.Folder in
    weaker F.moment F.left_since c.args.folder.now c.replace.new.folder _ _
    (λ l o. (o.old, o.was, stay g (goal.at.returns-in_err-replace-clause-any_moment g c).After-replace o.old l o.elsewhere)) (c.replace.ensures.any_moment h)

pub returns-clause-any_moment : goal.returns-clause-any_moment
returns-clause-any_moment g c = λ h.
    let F = g.F.Folder in
    weaker F.moment F.left_since c.args.folder.now c.replace.new.folder _ _
    (λ l o. (o.old, o.was, stay g (goal.at.returns-clause-any_moment g c).After-replace o.old l o.elsewhere)) (c.replace.ensures.any_moment h)
