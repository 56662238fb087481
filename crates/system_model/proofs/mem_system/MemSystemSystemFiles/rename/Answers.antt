use Rattle.std.proofs.Common.{List, ℕ, subst}
use Rattle.std.specs.Prelude.{is_ok, string_bytes}
use Rattle.store_files.specs.Disk.{Adds, Moved}
use Rattle.system_model.specs.System.{changes_in}
use Rattle.system_model.proofs.System.{one_path, adds_one, keeps}
use Rattle.system_model.proofs.mem_system.MemSystemSystemFiles.rename.Goals as goal

pub returns-clause-moved : goal.returns-clause-moved
returns-clause-moved c = λ h d n m at also.
    let old = c.args.self.now in
    let new = c.make.new.self in
    let made = c.make.ensures in
    let from = string_bytes c.in_ok-from.from in
    let to = string_bytes c.in_ok-to.to in
    let first = one_path old.folder d from n c.args.from.now c.in_ok-from.ensures.name at in
    let second = one_path old.folder d to m c.args.to.now c.in_ok-to.ensures.name also in
    subst (λ (k : List ℕ). Adds (is_ok c.make.result) (Moved k m) (changes_in old d) (changes_in new d)) first.1
    (subst (λ (k : List ℕ). Adds (is_ok c.make.result) (Moved from k) (changes_in old d) (changes_in new d)) second.1
    (adds_one c.make.result old new (Moved from to) d made.folder made.others first.0 made.made made.kept made.possible))

pub returns-clause-mark : goal.returns-clause-mark
returns-clause-mark c = λ h. keeps c.args.self.now c.make.new.self c.make.ensures.mark
