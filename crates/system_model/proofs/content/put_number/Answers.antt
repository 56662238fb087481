use Rattle.std.proofs.Common.{rules, ◌≡◌, ◌∙◌, ◌++◌, ◌∷◌, [], None, ap}
use Rattle.std.specs.Prelude.{string_bytes, if◌then◌else◌, nat_eq}
use lib.Pointwise.{pointwise}
use Rattle.system_model.specs.System.{number_in}
use Rattle.system_model.specs.declared.content.NamedFile.{NamedFile}
use Rattle.system_model.proofs.System.{added}
use Rattle.system_model.proofs.content.put_number.Goals as goal

pub returns : goal.returns
returns c = λ n.
    let entry : NamedFile = record { name = c.in_ok-name.name; number = c.args.number } in
    let named : string_bytes entry.name ≡ c.args.name.now = search rules in
    let items : c.push.new.self.items ≡ c.args.names.now.items ++ entry ∷ [] = search rules in
    ap (λ xs. number_in xs n None) items ∙ added c.args.names.now.items entry n None
    ∙ ap (λ m. if pointwise nat_eq m n then entry.number else number_in c.args.names.now.items n None) named
