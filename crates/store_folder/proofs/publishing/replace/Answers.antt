use Rattle.std.proofs.Common.{List, is_ok, subst}
use Rattle.std.specs.Prelude.{IsTrue}
use Rattle.store_folder.specs.Calls.{Doing, Kind, kind, Carried, replacing}
use Rattle.store_folder.proofs.PublishLemmas.{replace_run, replace_kept, replace_file, replace_seen, on_ok_from}
use Rattle.store_folder.proofs.publishing.replace.Goals.{After-carry_out}
use Rattle.store_folder.proofs.publishing.replace.Goals as goal

abbrev kind_of : (g : _) → After-carry_out g → Kind g.row.F.Denot
kind_of g c = kind g.F.Folder.seen g.F.Folder.may_hold g.F.Folder.may_leave g.F.Folder.moment g.F.Folder.left_since g.F.Folder.entry_kept g.F.Folder.trusted

-- the calls that were made
made : (g : _) (c : After-carry_out g) → IsTrue g.F.Folder.honest
    → Carried (kind_of g c) (replacing c.args.beside.now c.args.name.now c.args.bytes.now) (is_ok c.carry_out.result) c.args.folder.now c.carry_out.new.folder
made g c h = subst (λ (calls : List Doing). Carried (kind_of g c) calls (is_ok c.carry_out.result) c.args.folder.now c.carry_out.new.folder) c.replace_calls.ensures.calls
    (c.carry_out.ensures.carried h)

pub returns-clause-any_moment : goal.returns-clause-any_moment
returns-clause-any_moment g c = λ h.
    let here = (goal.at.returns-clause-any_moment g c).After-carry_out in
    replace_run (kind_of g here) c.args.beside.now c.args.name.now c.args.bytes.now c.args.folder.now (is_ok c.carry_out.result) c.carry_out.new.folder (made g here h) c.requires
    (λ f. g.met.F.Folder.only_now f)

pub returns-clause-published : goal.returns-clause-published
returns-clause-published g c = λ h.
    let here = (goal.at.returns-clause-published g c).After-carry_out in
    on_ok_from c.carry_out.result
    (replace_kept (kind_of g here) c.args.beside.now c.args.name.now c.args.bytes.now c.args.folder.now (is_ok c.carry_out.result) c.carry_out.new.folder (made g here h))

pub returns-clause-seen : goal.returns-clause-seen
returns-clause-seen g c = λ h.
    let here = (goal.at.returns-clause-seen g c).After-carry_out in
    on_ok_from c.carry_out.result
    (replace_seen (kind_of g here) c.args.beside.now c.args.name.now c.args.bytes.now c.args.folder.now (is_ok c.carry_out.result) c.carry_out.new.folder (made g here h))

pub returns-clause-file : goal.returns-clause-file
returns-clause-file g c = λ h.
    let here = (goal.at.returns-clause-file g c).After-carry_out in
    on_ok_from c.carry_out.result
    (replace_file (kind_of g here) c.args.beside.now c.args.name.now c.args.bytes.now c.args.folder.now (is_ok c.carry_out.result) c.carry_out.new.folder (made g here h))
