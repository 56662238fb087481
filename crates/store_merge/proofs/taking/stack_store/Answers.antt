use Rattle.std.proofs.Common.{◌≡◌}
use Rattle.docstore.specs.StackingInParts.{AfterStackInParts}
use Rattle.store_merge.specs.Stacking.{BeginsSlots}
use Rattle.store_merge.proofs.StackedLemmas.{refused_begun}
use Rattle.store_merge.proofs.TakeLemmas.{err_then}
use Rattle.store_merge.proofs.taking.stack_store.Goals as goal

pub returns-in-InParts-clause-grown : goal.returns-in-InParts-clause-grown
returns-in-InParts-clause-grown g c =
    let reader = c.args.reader.now in
    let read = c.stack_in_parts.new.reader in
    let old = c.args.writer.now in
    let new = c.stack_in_parts.new.self in
    err_then (AfterStackInParts reader read old new) (λ _. new.output.failure ≡ old.output.failure → BeginsSlots reader old new) c.stack_in_parts.result
    (λ e. refused_begun c.stores_are_stacked_in_order.ensures reader read old new e c.stack_in_parts.ensures.sound) c.stack_in_parts.ensures.err
