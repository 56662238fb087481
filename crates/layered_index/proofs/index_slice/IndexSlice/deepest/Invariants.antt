use Rattle.std.proofs.Common.{◌≤◌, List}
use Rattle.layered_index.specs.declared.checkpoint.Checkpoint.{Checkpoint}
use Rattle.layered_index.specs.IndexReading.{IsIndexPart}
use Rattle.layered_index.proofs.OutlineLemmas.{HaveRoom}
use Rattle.layered_index.proofs.index_slice.IndexSlice.deepest.Given as goal

-- the layers down to those that are left were passed, if the bytes are an index
abbrev pub invariant-loop-deepest : goal.invariant-loop-deepest
invariant-loop-deepest l = record {
  few : l.deepest.height ≤ 64;
  fits : l.deepest.count ≤ l.room;
  passed : (cs : List Checkpoint) → IsIndexPart l.self.period l.self.bytes cs
      → HaveRoom l.self.period l.room cs l.deepest.height l.place l.ends l.texts l.deepest.layer.now l.deepest.count l.layer_end;
}

abbrev pub decreases-loop-deepest : goal.decreases-loop-deepest
decreases-loop-deepest l = l.deepest.height
