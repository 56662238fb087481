use Rattle.std.specs.List.{AllByRecursion}
use Rattle.store_merge.specs.Inputs.{HasWholeSet}
use Rattle.test_stores.proofs.merge_inputs.inputs.Given as goal

abbrev pub invariant-loop-source : goal.invariant-loop-source
invariant-loop-source l = AllByRecursion HasWholeSet l.inputs.items
