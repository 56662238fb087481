use Rattle.std.proofs.Common.{◌≡◌, ◌≤◌, take, drop}
use Rattle.docstore.specs.Writer.{IsStoreWriter}
use Rattle.store_merge.specs.Inputs.{AreEach, AreInputsKept, AreStackedBy, IsSteadyInput}
use Rattle.store_merge.specs.Stacking.{IsReadBy}
use Rattle.store_merge.specs.Merge.{IsMerged}
use Rattle.store_merge.proofs.merging.take_inputs.Given as goal

abbrev pub invariant-loop-place : goal.invariant-loop-place
invariant-loop-place g l = record {
  merged : IsMerged (take l.place l.fn.inputs) l.fn.writer l.writer;
  kept : AreInputsKept (take l.place l.fn.inputs) (take l.place l.inputs);
  read : AreStackedBy (IsReadBy l.stacking) (take l.place l.fn.inputs) (take l.place l.inputs);
  faults : AreEach IsSteadyInput (take l.place l.fn.inputs) (take l.place l.inputs);
  rest : drop l.place l.inputs ≡ drop l.place l.fn.inputs;
  count : l.fn.writer.output.failures ≤ l.writer.output.failures;
  steady : l.writer.output.failures ≡ l.fn.writer.output.failures;
  sound : IsStoreWriter l.writer;
}
