use Rattle.std.proofs.Common.{List, ℕ, subst}
use Rattle.std.specs.Prelude.{is_ok, string_bytes}
use Rattle.store_files.specs.Disk.{Adds, Removed}
use Rattle.system_model.specs.System.{changes_in}
use Rattle.system_model.proofs.System.{one_path, adds_one, keeps}
use Rattle.system_model.proofs.mem_system.MemSystemSystemFiles.remove.Goals as goal

pub returns-clause-removed : goal.returns-clause-removed
returns-clause-removed c = λ h d n at.
    let old = c.args.self.now in
    let new = c.make.new.self in
    let made = c.make.ensures in
    let name = string_bytes c.in_ok-name.name in
    let same = one_path old.folder d name n c.args.path.now c.in_ok-name.ensures.name at in
    subst (λ (m : List ℕ). Adds (is_ok c.make.result) (Removed m) (changes_in old d) (changes_in new d)) same.1
    (adds_one c.make.result old new (Removed name) d made.folder made.others same.0 made.made made.kept made.possible)

pub returns-clause-mark : goal.returns-clause-mark
returns-clause-mark c = λ h. keeps c.args.self.now c.make.new.self c.make.ensures.mark
