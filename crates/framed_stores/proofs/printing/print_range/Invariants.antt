-- The documents of the ids so far were written, and the reader has its store.
use Rattle.std.specs.Prelude.{IsTrue}
use Rattle.store_format.specs.Slots.{slots}
use Rattle.store_reader.specs.Reading.{IsSameStore, store_of}
use Rattle.framed_stores.specs.Printing.{PrintsSlots, slots_among}
use Rattle.framed_stores.proofs.printing.print_range.Given as goal

abbrev pub invariant-loop-doc_id : goal.invariant-loop-doc_id
invariant-loop-doc_id g l = record {
  same : IsSameStore l.initial.reader l.reader;
  printed : IsTrue l.initial.reader.file.honest → PrintsSlots l.fn.form
      (slots_among l.fn.ids.start l.doc_id (slots (store_of l.initial.reader)))
      (g.W.Write.contents l.initial.output) (g.W.Write.contents l.output);
}
