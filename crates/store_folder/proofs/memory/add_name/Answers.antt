use Rattle.std.proofs.Common.{sym, ◌∙◌, ap, rules}
use Rattle.std.specs.List.{list_any}
use Rattle.std.specs.String.{string_eq}
use Rattle.store_folder.specs.Changes.{look_of}
use Rattle.store_folder.proofs.NamesLemmas.{listed, no_file, pushed}
use Rattle.store_folder.proofs.memory.add_name.Goals.{then-contains-via-then-contains, then-contains-via-else-contains+in_ok-bytes_at+then-is_none}
use Rattle.store_folder.proofs.memory.add_name.Goals as goal

pub returns-then-contains : goal.returns-then-contains
returns-then-contains c = λ others was. elim c.then-contains.branch [
  | then-contains-via-then-contains w ↦ listed (look_of c.args.changes.now) others c.args.names.now.items c.args.name.now was
      (ap (list_any (λ y. string_eq y c.args.name.now)) (sym c.deref.ensures.value) ∙ sym c.contains.ensures.value ∙ w.if-contains.true)
  | then-contains-via-else-contains+in_ok-bytes_at+then-is_none w ↦ no_file (look_of c.args.changes.now) others c.args.names.now.items c.args.name.now was
      w.in_ok-bytes_at.field-0 (search rules) w.if-is_none.ensures
]

pub returns : goal.returns
returns c = λ others was.
    pushed (look_of c.args.changes.now) others c.args.names.now.items c.args.name.now was c.in_ok-from_str.field-0 c.push.new.self.items
    (search rules) (search rules) (ap (list_any (λ y. string_eq y c.args.name.now)) (sym c.deref.ensures.value) ∙ sym c.contains.ensures.value ∙ c.if-contains.false)
    c.in_ok-bytes_at.field-0 (search rules) (search rules)
