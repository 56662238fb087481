use Rattle.std.proofs.Common.{ℕ, List, [], ◌∷◌, ◌++◌, ◌∙◌, ap}
use Rattle.store_files.specs.Mark.{word, fields}
use Rattle.store_files.proofs.ByteLemmas.{three_fields}
use Rattle.store_files.proofs.mark.head.Goals as goal

pub returns : goal.returns
returns c =
    three_fields (word c.args.kind) c.args.boot.now c.args.inode.now c.new-bytes.result.items c.push_field.new.bytes.items c.push_field-2.new.bytes.items c.push_field-3.new.bytes.items
    c.new-bytes.ensures.items (c.in_ok-push_field.ensures ∙ ap (λ (w : List ℕ). c.new-bytes.result.items ++ fields (w ∷ []) []) c.word.ensures)
    c.in_ok-push_field-2.ensures c.in_ok-push_field-3.ensures
