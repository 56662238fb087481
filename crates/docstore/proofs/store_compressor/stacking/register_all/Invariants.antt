use Rattle.std.proofs.Common.{◌≡◌, ◌++◌, ◌<◌, ◌≤◌, ◌^◌, length}
use Rattle.std.specs.List.{sum_by, AllByRecursion}
use Rattle.layered_index.specs.Checkpoint.{doc_count, IsFilled}
use Rattle.docstore.specs.Stacking.{laid_from}
use Rattle.docstore.proofs.store_compressor.stacking.register_all.Given as goal

-- what was added, with what is left, is all
abbrev pub invariant-loop-block : goal.invariant-loop-block
invariant-loop-block l = record {
  all : l.index.checkpoints ++ laid_from l.next_id l.start l.block-iterator
      ≡ l.initial.index.checkpoints ++ laid_from l.initial.next_id l.initial.start l.fn.checkpoints;
  period : l.index.period ≡ l.initial.index.period;
  few : l.next_id < 2 ^ 32;
  ids : l.next_id ≡ sum_by doc_count l.index.checkpoints;
  left : length l.block-iterator ≤ length l.fn.checkpoints;
  filled : AllByRecursion IsFilled l.block-iterator;
}
