use Rattle.std.proofs.Common.{rules, ◌≡◌, ◌∙◌, true, subst, List}
use Rattle.store_files.specs.Disk.{Change, replay}
use Rattle.store_files.specs.Paths.{IsPath}
use Rattle.store_folder.specs.Changes.{look_of}
use Rattle.system_model.specs.Made.{empty}
use Rattle.system_model.specs.System.{Holds, are_made, made_by}
use Rattle.store_folder.specs.Folder.{bytes_of}
use Rattle.system_model.proofs.System.{found}
use Rattle.system_model.proofs.mem_system.MemSystem.bytes_at.Goals as goal

pub returns-in-Ok-clause-found : goal.returns-in-Ok-clause-found
returns-in-Ok-clause-found c = λ d n at.
    let s = c.args.self.now in
    let changes : made_by c.self.inside.steps.items ≡ s.changes = search rules in
    let was : are_made s.changes ≡ true = subst (λ (cs : List Change). are_made cs ≡ true) changes c.self.invariant.0 in
    let holds = subst (λ (cs : List Change). Holds c.self.inside.content (replay cs empty)) changes (c.self.invariant.1 c.in_ok-check.ensures.whole) in
    let name = c.in_ok-name.name.now in
    let mine : IsPath s.folder name c.args.path.now = search rules in
    let read : look_of c.self.inside.content.files.changes.items name ≡ bytes_of c.in-Ok.found = search rules in
    (found s c.self.inside.content d n name c.args.path.now was holds mine at).1 ∙ read
