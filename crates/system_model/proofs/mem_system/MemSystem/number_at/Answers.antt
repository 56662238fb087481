use Rattle.std.proofs.Common.{rules, ◌≡◌, ◌∙◌, true, sym, subst, List, None}
use Rattle.store_files.specs.Disk.{Change, replay}
use Rattle.store_files.specs.Paths.{IsPath}
use Rattle.system_model.specs.Made.{empty}
use Rattle.system_model.specs.System.{Holds, are_made, made_by, number_in}
use Rattle.system_model.proofs.System.{found}
use Rattle.system_model.proofs.mem_system.MemSystem.number_at.Goals as goal

pub returns-clause-found : goal.returns-clause-found
returns-clause-found c = λ d n at.
    let s = c.args.self.now in
    let changes : made_by c.self.inside.steps.items ≡ s.changes = search rules in
    let was : are_made s.changes ≡ true = subst (λ (cs : List Change). are_made cs ≡ true) changes c.self.invariant.0 in
    let holds = subst (λ (cs : List Change). Holds c.self.inside.content (replay cs empty)) changes (c.self.invariant.1 c.in_ok-check.ensures.whole) in
    let name = c.in_ok-name.name.now in
    let mine : IsPath s.folder name c.args.path.now = search rules in
    let number : c.number_of.result ≡ number_in c.self.inside.content.names.items name None = search rules in
    (found s c.self.inside.content d n name c.args.path.now was holds mine at).0 ∙ sym number
