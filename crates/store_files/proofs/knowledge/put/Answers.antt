use Rattle.std.proofs.Common.{◌≡◌, ◌∙◌, ◌++◌, ◌∷◌, [], List, ap, rules}
use Rattle.std.proofs.lemmas.Fn.{filter_same}
use Rattle.std.specs.Prelude.{not}
use Rattle.store_files.specs.declared.knowledge.TouchedFile.{TouchedFile}
use Rattle.store_files.proofs.KnowledgeLemmas.{is_at, replaced}
use Rattle.store_files.proofs.knowledge.put.Goals as goal

pub returns : goal.returns
returns c =
    let file : TouchedFile = record { name = c.in_ok-name.name; standing = c.args.standing } in
    let named : file.name.items ≡ c.args.name.now = search rules in
    replaced c.args.name.now c.args.touched.now.items c.push.new.self.items file named
    (c.in_ok-push.ensures.items
    ∙ ap (λ (fs : List TouchedFile). fs ++ file ∷ []) (filter_same _ (λ file. not (is_at c.args.name.now file)) _ (λ x b f' k. search rules) _ _ c.retain.ensures.filtered))
