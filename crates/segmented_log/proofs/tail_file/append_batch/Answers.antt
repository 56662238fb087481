use Rattle.std.proofs.Common.{List, is_ok, ap, subst}
use Rattle.std.specs.Prelude.{IsTrue}
use Rattle.store_folder.specs.Calls.{Doing, Kind, kind, Carried}
use Rattle.segmented_log.specs.CallLists.{appending}
use Rattle.segmented_log.proofs.CallListLemmas.{append_grows, append_elsewhere, append_kept}
use Rattle.segmented_log.proofs.tail_file.append_batch.Goals.{After-carry_out}
use Rattle.segmented_log.proofs.tail_file.append_batch.Goals as goal

abbrev kind_of : (g : _) → After-carry_out g → Kind g.row.F.Denot
kind_of g c = kind g.F.Folder.seen g.F.Folder.may_hold g.F.Folder.may_leave g.F.Folder.moment g.F.Folder.left_since g.F.Folder.entry_kept g.F.Folder.trusted

-- the calls that were made
made : (g : _) (c : After-carry_out g) → IsTrue g.F.Folder.honest → Carried (kind_of g c) (appending c.args.batch.now) (is_ok c.carry_out.result) c.args.folder.now c.carry_out.new.folder
made g c h = subst (λ (calls : List Doing). Carried (kind_of g c) calls (is_ok c.carry_out.result) c.args.folder.now c.carry_out.new.folder) c.append_calls.ensures.calls
    (c.carry_out.ensures.carried h)

pub returns-in_err-carry_out-clause-any_moment : goal.returns-in_err-carry_out-clause-any_moment
returns-in_err-carry_out-clause-any_moment g c = λ h tail kept.
    let here = (goal.at.returns-in_err-carry_out-clause-any_moment g c).After-carry_out in
    append_grows (kind_of g here) c.args.batch.now tail (is_ok c.carry_out.result) c.args.folder.now c.carry_out.new.folder (made g here h) kept (g.met.F.Folder.only_now c.args.folder.now)

pub returns-clause-any_moment : goal.returns-clause-any_moment
returns-clause-any_moment g c = λ h tail kept.
    let here = (goal.at.returns-clause-any_moment g c).After-carry_out in
    append_grows (kind_of g here) c.args.batch.now tail (is_ok c.carry_out.result) c.args.folder.now c.carry_out.new.folder (made g here h) kept (g.met.F.Folder.only_now c.args.folder.now)

pub returns-in_err-carry_out-clause-elsewhere : goal.returns-in_err-carry_out-clause-elsewhere
returns-in_err-carry_out-clause-elsewhere g c = λ h.
    let here = (goal.at.returns-in_err-carry_out-clause-elsewhere g c).After-carry_out in
    append_elsewhere (kind_of g here) c.args.batch.now (c.requires h).0 (is_ok c.carry_out.result) c.args.folder.now c.carry_out.new.folder (made g here h) (c.requires h).1

pub returns-clause-elsewhere : goal.returns-clause-elsewhere
returns-clause-elsewhere g c = λ h.
    let here = (goal.at.returns-clause-elsewhere g c).After-carry_out in
    append_elsewhere (kind_of g here) c.args.batch.now (c.requires h).0 (is_ok c.carry_out.result) c.args.folder.now c.carry_out.new.folder (made g here h) (c.requires h).1

pub returns-clause-kept : goal.returns-clause-kept
returns-clause-kept g c = λ h tail kept.
    let here = (goal.at.returns-clause-kept g c).After-carry_out in
    append_kept (kind_of g here) c.args.batch.now tail (is_ok c.carry_out.result) c.args.folder.now c.carry_out.new.folder (made g here h) kept (g.met.F.Folder.seen_may_be_left c.args.folder.now h)
    (ap is_ok c.in_ok-carry_out.was)
