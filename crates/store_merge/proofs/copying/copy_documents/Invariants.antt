use Rattle.std.proofs.Common.{◌≡◌, ◌≤◌, length, take, None}
use Rattle.store_reader.specs.Iteration.{alive}
use Rattle.store_reader.specs.Reading.{IsSameStore, store_of}
use Rattle.store_format.specs.Slots.{slots}
use Rattle.store_reader.specs.Walking.{taken_last, set_of, set_in, IsWalk, LooksAlong}
use Rattle.docstore.specs.Writer.{IsStoreWriter}
use Rattle.store_merge.specs.Bringing.{IsCopied}
use Rattle.store_reader.proofs.SteadyLemmas.{IsSteadySoFar}
use Rattle.store_merge.proofs.CopyLemmas.{HasFailedRead}
use Rattle.store_merge.proofs.copying.copy_documents.Given as goal

abbrev pub invariant-loop-document : goal.invariant-loop-document
invariant-loop-document g l = record {
  name : l.document-iterator.reader.ghost_name ≡ l.initial.document-iterator.reader.ghost_name;
  same : IsSameStore l.fn.reader l.document-iterator.reader.now;
  set : set_in l.document-iterator.alive.now ≡ set_of l.alive;
  walk : IsWalk l.document-iterator.reader.now l.document-iterator.walk;
  so_far : IsSteadySoFar (set_of l.alive) l.fn.reader l.document-iterator.reader.now l.document-iterator.walk;
  copied : IsCopied l.fn.reader.file.honest (alive (take l.document-iterator.walk.next (slots (store_of l.fn.reader))) (set_of l.alive)) l.fn.writer l.writer;
  below : l.document-iterator.walk.next ≤ length (slots (store_of l.fn.reader));
  failed : HasFailedRead l.fn.reader l.document-iterator.reader.now (taken_last l.document-iterator.walk);
  looks : LooksAlong (take l.document-iterator.walk.place l.fn.reader.checkpoints) l.fn.reader None l.document-iterator.reader.now (taken_last l.document-iterator.walk);
  count : l.fn.writer.output.failures ≤ l.writer.output.failures;
  steady : l.writer.output.failures ≡ l.fn.writer.output.failures;
  sound : IsStoreWriter l.writer;
}
