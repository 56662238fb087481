-- The writer goes on with its file, and has the documents of the inputs so far that their words keep.
use Rattle.std.specs.Prelude.{IsTrue}
use Rattle.std.specs.List.{AllByRecursion}
use Rattle.docstore.specs.Writer.{IsSameFile}
use Rattle.program_stores.specs.Merged.{words_for, IsReaderIn, AreMerged, AddsSlots}
use Rattle.program_stores.proofs.merge.Merging.merge_inputs.Given as goal

abbrev pub invariant-loop-input : goal.invariant-loop-input
invariant-loop-input g l = record {
  file : IsSameFile l.fn.writer l.writer;
  added : AllByRecursion (λ input. IsTrue input.file.honest) l.fn.inputs.items → AddsSlots (AreMerged (λ input. IsReaderIn input.file.content)
      (λ input. words_for l.fn.self.without.now input.path.now) l.yielded) l.fn.writer l.writer;
}
