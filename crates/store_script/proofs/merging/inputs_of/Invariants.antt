use Rattle.std.specs.List.{AllByRecursion}
use Rattle.store_merge.specs.Inputs.{HasWholeSet}
use Rattle.store_script.proofs.merging.inputs_of.Given as goal

abbrev pub invariant-loop-store : goal.invariant-loop-store
invariant-loop-store l = AllByRecursion HasWholeSet l.inputs.items
