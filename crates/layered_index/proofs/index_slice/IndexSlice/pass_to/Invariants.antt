use Rattle.std.proofs.Common.{◌≤◌, ◌-◌, List}
use Rattle.layered_index.specs.declared.checkpoint.Checkpoint.{Checkpoint}
use Rattle.layered_index.specs.IndexReading.{IsIndexPart}
use Rattle.layered_index.specs.Sought.{IsRest}
use Rattle.layered_index.proofs.OutlineLemmas.{ArePassed}
use Rattle.layered_index.proofs.index_slice.IndexSlice.pass_to.Given as goal

-- the layers down to those that are left were passed, if the bytes are an index, and what is left is the end of them
abbrev pub invariant-loop-left : goal.invariant-loop-left
invariant-loop-left l = record {
  least : l.height ≤ l.left;
  passed : (cs : List Checkpoint) → IsIndexPart l.self.period l.self.bytes cs → ArePassed l.self.period cs l.left l.place l.ends l.texts l.last;
  rest_ends : IsRest l.self.bytes l.ends;
  rest_texts : IsRest l.self.bytes l.texts;
}

abbrev pub decreases-loop-left : goal.decreases-loop-left
decreases-loop-left l = l.left - l.height
