use Rattle.std.proofs.Common.{◌≡◌, List}
use Rattle.layered_index.specs.declared.checkpoint.Checkpoint.{Checkpoint}
use Rattle.layered_index.specs.IndexReading.{IsIndexPart}
use Rattle.layered_index.specs.Sought.{past_on}
use Rattle.layered_index.proofs.index_slice.IndexSlice.seek_on.Given as goal

-- the cursor has the first past the target, and those after it
abbrev pub invariant-loop-checkpoint : goal.invariant-loop-checkpoint
invariant-loop-checkpoint l = (cs : List Checkpoint) → IsIndexPart l.self.period l.self.bytes cs → past_on l.cursor l.target ≡ past_on cs l.target
