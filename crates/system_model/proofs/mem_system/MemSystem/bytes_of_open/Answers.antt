use Rattle.std.proofs.Common.{rules, ◌≡◌, true, subst, List, Some, None}
use Rattle.std.specs.Prelude.{string_bytes}
use Rattle.store_files.specs.Disk.{Change, replay}
use Rattle.store_files.specs.Paths.{IsPath}
use Rattle.store_folder.specs.Changes.{look_of}
use Rattle.system_model.specs.Made.{empty}
use Rattle.system_model.specs.System.{Holds, are_made, made_by, number_in}
use Rattle.system_model.proofs.System.{open_bytes}
use Rattle.system_model.proofs.mem_system.MemSystem.bytes_of_open.Goals as goal

pub returns-in-Some-2 : goal.returns-in-Some-2
returns-in-Some-2 c = λ d inside.
    let s = c.args.self.now in
    let changes : made_by c.self.inside.steps.items ≡ s.changes = search rules in
    let was : are_made s.changes ≡ true = subst (λ (cs : List Change). are_made cs ≡ true) changes c.self.invariant.0 in
    let holds = subst (λ (cs : List Change). Holds c.self.inside.content (replay cs empty)) changes (c.self.invariant.1 c.in_ok-check.ensures.whole) in
    let other = string_bytes c.in_ok-_name._name in
    let path = string_bytes c.args.file.now.path in
    let mine : IsPath s.folder other path = search rules in
    let name = string_bytes c.in-Some.name in
    let number : number_in c.self.inside.content.names.items name None ≡ Some c.args.file.now.number = search rules in
    let read : look_of c.self.inside.content.files.changes.items name ≡ Some c.in-Some-2.bytes.items = search rules in
    open_bytes s c.self.inside.content d name other path c.in-Some-2.bytes.items c.args.file.now.number was holds mine inside number read
