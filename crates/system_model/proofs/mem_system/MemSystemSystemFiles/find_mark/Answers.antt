use Rattle.std.proofs.Common.{rules, ◌≡◌, ◌∙◌, ap, subst}
use Rattle.store_files.specs.Disk.{replay}
use Rattle.store_files.specs.Known.{AreSo, Claims}
use Rattle.store_files.specs.Mark.{claims_of}
use Rattle.system_model.specs.Made.{empty}
use Rattle.system_model.specs.System.{changes_in}
use Rattle.system_model.proofs.System.{copy_claims}
use Rattle.system_model.proofs.mem_system.MemSystemSystemFiles.find_mark.Goals as goal

pub returns-clause-so : goal.returns-clause-so
returns-clause-so c = λ h was.
    let same : c.args.self.now.mark ≡ c.self.inside.mark = search rules in
    let copied = c.in_ok-clone.ensures.cases in
    let claims = ap claims_of same ∙ copy_claims c.self.inside.mark c.in_ok-clone.field-0 copied.0 copied.1.0 in
    subst (λ (claimed : Claims). AreSo claimed (replay (changes_in c.args.self.now c.args._folder.now) empty)) claims was

pub returns-clause-claims : goal.returns-clause-claims
returns-clause-claims c = λ h locks.
    let same : c.args.self.now.mark ≡ c.self.inside.mark = search rules in
    let copied = c.in_ok-clone.ensures.cases in
    ap claims_of same ∙ copy_claims c.self.inside.mark c.in_ok-clone.field-0 copied.0 copied.1.0
