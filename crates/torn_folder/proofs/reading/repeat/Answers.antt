use Rattle.std.proofs.Common.{sym, subst, ◌∷◌}
use Rattle.std.proofs.lemmas.Result.{on_ok_weaker}
use Rattle.store_folder.specs.Changes.{look_of, Is}
use Rattle.torn_folder.specs.Torn.{seen_by}
use Rattle.torn_folder.specs.declared.Event.{Event}
use Rattle.torn_folder.proofs.Looks.{appended_again}
use Rattle.torn_folder.proofs.reading.repeat.Goals as goal

pub returns-in-Appended : goal.returns-in-Appended
returns-in-Appended c =
    let new = look_of c.append_in.new.folder.changes.items in
    on_ok_weaker c.append_in.result
    (λ is events was. subst (λ (e : Event). Is (seen_by (e ∷ events)) new) (sym c.in-Appended.is)
    (appended_again c.in-Appended.name c.in-Appended.bytes events _ _ (look_of c.args.folder.now.changes.items) new c.as_str-in-Appended.ensures.value c.deref.ensures.value is was))
    c.append_in.ensures
