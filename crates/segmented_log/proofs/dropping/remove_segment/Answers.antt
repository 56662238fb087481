use Rattle.std.proofs.Common.{List, is_ok, ap, subst, ◌∙◌}
use Rattle.store_folder.specs.Calls.{Doing, Kind, kind, Carried}
use Rattle.segmented_log.proofs.CallListLemmas.{remove_gone}
use Rattle.segmented_log.proofs.dropping.remove_segment.Goals as goal

pub returns-clause-gone : goal.returns-clause-gone
returns-clause-gone g c = λ h.
    let F = g.F.Folder in
    let k : Kind g.row.F.Denot = kind F.seen F.may_hold F.may_leave F.moment F.left_since F.entry_kept F.trusted in
    let calls_are = c.remove_calls.ensures.calls c.args.first (c.as_str.ensures.value ∙ c.in_ok-name.ensures) in
    remove_gone k c.args.first (is_ok c.carry_out.result) c.args.folder.now c.carry_out.new.folder
    (subst (λ (calls : List Doing). Carried k calls (is_ok c.carry_out.result) c.args.folder.now c.carry_out.new.folder) calls_are (c.carry_out.ensures.carried h)) (ap is_ok c.in_ok-carry_out.was)
