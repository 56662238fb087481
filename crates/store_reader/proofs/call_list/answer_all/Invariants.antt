use Rattle.std.proofs.Common.{◌≡◌, take}
use Rattle.std.specs.List.{AllByRecursion, AllZip}
use Rattle.std.specs.Prelude.{IsTrue}
use Rattle.store_base.specs.Counts.{HasRisen}
use Rattle.store_base.specs.declared.error.StoreError.TheVariants.{Read}
use Rattle.store_reader.specs.CallAnswers.{ShowsEachBlock, AreAnswers, HasRefusal, RefusesPast, keys_of_calls}
use Rattle.store_reader.specs.LookLaws.{AreLookUps}
use Rattle.store_reader.specs.Reading.{IsSameStore, num_docs, store_of}
use Rattle.store_format.specs.Slots.{slots}
use Rattle.store_reader.proofs.call_list.answer_all.Given as goal

abbrev pub invariant-loop-call : goal.invariant-loop-call
invariant-loop-call g l = record {
  same : IsSameStore l.fn.reader l.reader;
  looks : AreLookUps (keys_of_calls l.fn.reader.checkpoints (take l.call-index l.calls)) l.fn.reader l.reader;
  so_far : IsTrue l.fn.reader.file.honest → AreAnswers (slots (store_of l.fn.reader)) (take l.call-index l.calls) l.answers.items;
  past : AllZip (RefusesPast (num_docs l.fn.reader)) (take l.call-index l.calls) l.answers.items;
  steady : AllByRecursion (ShowsEachBlock l.fn.reader.checkpoints) (take l.call-index l.calls) → (HasRefusal l.answers.items Read → ⊥) → l.reader.file.failures ≡ l.fn.reader.file.failures;
  failed : HasRefusal l.answers.items Read → HasRisen l.fn.reader.file.failures l.reader.file.failures;
}
