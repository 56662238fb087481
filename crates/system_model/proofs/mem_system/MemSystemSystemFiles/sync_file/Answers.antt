use Rattle.std.proofs.Common.{rules}
use Rattle.std.specs.Prelude.{string_bytes}
use Rattle.store_files.specs.Paths.{IsPath}
use Rattle.system_model.proofs.System.{one_path, syncs_one, keeps}
use Rattle.system_model.proofs.mem_system.MemSystemSystemFiles.sync_file.Goals as goal

pub returns-clause-synced : goal.returns-clause-synced
returns-clause-synced c = λ h d inside.
    let old = c.args.self.now in
    let made = c.make.ensures in
    let other = string_bytes c.in_ok-_name._name in
    let path = string_bytes c.args.file.now.path in
    let mine : IsPath old.folder other path = search rules in
    let same = one_path old.folder d other inside.0 path mine inside.1 in
    syncs_one c.make.result old c.make.new.self c.args.file.now.number d made.folder made.others same.0 made.made made.kept made.possible

pub returns-clause-mark : goal.returns-clause-mark
returns-clause-mark c = λ h. keeps c.args.self.now c.make.new.self c.make.ensures.mark
