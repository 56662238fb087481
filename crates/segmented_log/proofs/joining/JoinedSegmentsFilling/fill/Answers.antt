use Rattle.std.proofs.Common.{ap, subst, ◌∙◌, List}
use Rattle.std.specs.Prelude.{IfErr}
use Rattle.std.specs.List.{AllByRecursion, flat_map}
use Rattle.store_merge.specs.declared.input.MergeInput.{MergeInput}
use Rattle.store_merge.specs.Choice.{alive_slots}
use Rattle.store_merge.specs.Merge.{IsHonest}
use Rattle.segmented_log.specs.Compacting.{IsWhole}
use Rattle.segmented_log.specs.Joining.{RefusesJoin}
use Rattle.segmented_log.proofs.joining.JoinedSegmentsFilling.fill.Goals as goal

pub returns-clause-refused : goal.returns-clause-refused
returns-clause-refused g c =
    subst (λ (inputs : List (MergeInput _)). IfErr c.merge_all.result (λ e. AllByRecursion IsHonest inputs → AllByRecursion IsWhole inputs
    → RefusesJoin c.args.writer.now.block_size (flat_map alive_slots inputs) e.error))
    (c.deref_mut.ensures.value ∙ ap (λ v. v.items) c.replace-inputs.ensures.value) c.merge_all.ensures.refused
