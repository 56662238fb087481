use Rattle.std.proofs.Common.{rules, ◌≡◌, true, subst, refl, List}
use Rattle.store_files.specs.Disk.{Change, replay}
use Rattle.system_model.specs.Made.{empty}
use Rattle.system_model.specs.System.{Holds, are_made, made_by}
use Rattle.std.proofs.lemmas.Result.{IfOk-weaker}
use Rattle.system_model.proofs.System.{same_names, seen_here}
use Rattle.system_model.proofs.mem_system.MemSystemSystemFiles.names.Goals as goal

pub returns : goal.returns
returns c = λ h.
    let s = c.args.self.now in
    let changes : made_by c.self.inside.steps.items ≡ s.changes = search rules in
    let was : are_made s.changes ≡ true = subst (λ (cs : List Change). are_made cs ≡ true) changes c.self.invariant.0 in
    let holds = subst (λ (cs : List Change). Holds c.self.inside.content (replay cs empty)) changes (c.self.invariant.1 c.in_ok-check.ensures.whole) in
    let at : s.folder ≡ c.args.path.now = search rules in
    IfOk-weaker c.names.result _ _ (λ names are. same_names _ _ _ (seen_here s c.self.inside.content c.args.path.now was holds at) are) (c.names.ensures.names refl)
