use Rattle.std.proofs.Common.{List, ◌++◌, sym, ap, ◌∙◌, refl}
use Rattle.docstore.specs.Laws.{taken}
use Rattle.store_format.specs.Block.{Slot}
use Rattle.store_reader.proofs.ItemsSoFarLemmas.{same_slots}
use Rattle.store_commands.proofs.AppendLemmas.{all_kept, same_honest}
use Rattle.store_commands.proofs.copied_store.copy_store.Goals as goal

pub returns-in-Ok-clause-copied : goal.returns-in-Ok-clause-copied
returns-in-Ok-clause-copied g c honest =
    let opened = c.args.reader in let left = c.in-Ok.reader in
    let same = c.in-Ok.ensures.reader.store in
    c.in-Ok.ensures.grown (same_honest opened left same honest)
    ∙ ap (λ (xs : List Slot). taken c.args.writer.now ++ xs) (all_kept _ opened refl ∙ sym (same_slots opened left same))
