use Rattle.std.proofs.Common.{rules, ◌≡◌, ◌+◌, true, sym, subst}
use Rattle.std.specs.Prelude.{◌&&◌}
use Rattle.store_files.specs.Disk.{Change, Created, Appended, after, replay}
use Rattle.system_model.specs.Made.{empty}
use Rattle.system_model.specs.Sound.{stands_possible}
use Rattle.system_model.specs.System.{Holds, can_be_made, are_made, change_of}
use Rattle.system_model.proofs.System.{created_holds, appended_holds}
use Rattle.system_model.proofs.content.Content.apply.Goals as goal

pub returns-in_ok-create-in-Created : goal.returns-in_ok-create-in-Created
returns-in_ok-create-in-Created c = λ earlier made was.
    let new = c.create.new.self in
    let did = c.in_ok-create-in-Created.ensures in
    let name = c.as_str.result.now in
    let next : new.next ≡ c.args.self.now.next + 1 = search rules in
    let step : change_of c.args.step.now ≡ Created name = search rules in
    let holds = created_holds earlier c.args.self.now new was name (stands_possible earlier made) did.names did.made did.elsewhere next in
    subst (λ (change : Change). Holds new (after change (replay earlier empty)) × (can_be_made change (replay earlier empty) && are_made earlier) ≡ true) (sym step) (holds, made)

pub returns-in_ok-append-in-Appended : goal.returns-in_ok-append-in-Appended
returns-in_ok-append-in-Appended c = λ earlier made was.
    let new = c.append.new.self in
    let did = c.in_ok-append-in-Appended.ensures in
    let bytes = c.deref.result.now in
    let number = c.in-Appended.number in
    let next : new.next ≡ c.args.self.now.next + 1 = search rules in
    let step : change_of c.args.step.now ≡ Appended number bytes = search rules in
    let holds = appended_holds earlier c.args.self.now new was did.0 bytes number (stands_possible earlier made) did.1 did.2 did.3 did.4 next in
    subst (λ (change : Change). Holds new (after change (replay earlier empty)) × (can_be_made change (replay earlier empty) && are_made earlier) ≡ true) (sym step) (holds, made)
