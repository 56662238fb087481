use Rattle.std.proofs.Common.{rules, ◌≡◌, ◌∙◌, List, Some, ap, sym, subst, string_bytes}
use Rattle.std.specs.Prelude.{option_map}
use Rattle.store_files.specs.Disk.{Change, replay}
use Rattle.store_files.specs.Known.{Claims, AreSo}
use Rattle.store_files.specs.Mark.{claims_of}
use Rattle.system_model.specs.Made.{empty}
use Rattle.system_model.specs.System.{MemDisk, changes_in, made_by, synced_by}
use Rattle.system_model.proofs.System.{copy_claims, so_of_each, none_more}
use Rattle.system_model.proofs.mem_system.MemSystemSystemFiles.write_mark.Goals as goal

pub returns-in_ok-self-inside-in-Some-clause-claims : goal.returns-in_ok-self-inside-in-Some-clause-claims
returns-in_ok-self-inside-in-Some-clause-claims c = λ h d locks place.
    let copied = c.in_ok-self-inside-in-Some.ensures.cases in
    sym (copy_claims c.args.mark.now c.in_ok-self-inside-in-Some.field-0 copied.0 copied.1.0)

pub returns-in_ok-self-inside-in-Some-clause-so : goal.returns-in_ok-self-inside-in-Some-clause-so
returns-in_ok-self-inside-in-Some-clause-so c = λ h d was.
    let old = c.args.self.now in
    let mark = c.args.mark.now in
    let copied = c.in_ok-self-inside-in-Some.ensures.cases in
    let new : MemDisk = record {
      folder = string_bytes c.self.inside.folder;
      changes = made_by c.self.inside.steps.items;
      others = synced_by c.self.inside.others.items;
      mark = c.in_ok-self-inside-in-Some.field-0;
    } in
    let folder : new.folder ≡ old.folder = search rules in
    let changes : new.changes ≡ old.changes = search rules in
    let others : new.others ≡ old.others = search rules in
    let at : string_bytes c.in-Some.folder ≡ old.folder = search rules in
    let locks = ap (λ l. option_map string_bytes l) c.in-Some.is ∙ ap (λ n. Some n) at in
    let so = so_of_each old mark d (c.requires h old.folder locks) in
    subst (λ (made : List Change). AreSo (claims_of c.in_ok-self-inside-in-Some.field-0) (replay made empty)) (sym (none_more old new d folder changes others))
    (subst (λ (claims : Claims). AreSo claims (replay (changes_in old d) empty)) (copy_claims mark c.in_ok-self-inside-in-Some.field-0 copied.0 copied.1.0) so)
