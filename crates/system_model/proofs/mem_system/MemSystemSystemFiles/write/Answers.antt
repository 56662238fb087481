use Rattle.std.proofs.Common.{rules, ◌≡◌, List, ℕ, subst}
use Rattle.std.specs.Prelude.{is_ok, string_bytes}
use Rattle.store_files.specs.Disk.{Writes}
use Rattle.store_files.specs.Paths.{IsPath}
use Rattle.system_model.specs.System.{changes_in}
use Rattle.system_model.proofs.System.{one_path, writes_one, keeps}
use Rattle.system_model.proofs.mem_system.MemSystemSystemFiles.write.Goals as goal

pub returns-clause-written : goal.returns-clause-written
returns-clause-written c = λ h d inside.
    let old = c.args.self.now in
    let new = c.make.new.self in
    let made = c.make.ensures in
    let number = c.args.file.now.number in
    let other = string_bytes c.in_ok-_name._name in
    let path = string_bytes c.args.file.now.path in
    let mine : IsPath old.folder other path = search rules in
    let same = one_path old.folder d other inside.0 path mine inside.1 in
    let bytes : c.in_ok-bytes.bytes.items ≡ c.args.bytes.now = search rules in
    subst (λ (bs : List ℕ). Writes (is_ok c.make.result) number bs (changes_in old d) (changes_in new d)) bytes
    (writes_one c.make.result old new number c.in_ok-bytes.bytes.items d made.folder made.others same.0 made.made made.kept made.possible)

pub returns-clause-mark : goal.returns-clause-mark
returns-clause-mark c = λ h. keeps c.args.self.now c.make.new.self c.make.ensures.mark
