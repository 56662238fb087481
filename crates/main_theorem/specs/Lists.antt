-- A list of writing calls, its file opened twice, and a list of reading calls for both readers.
use Rattle.std.specs.Prelude.{◌≡◌, ℕ, List, [], map, Option}
use Rattle.store_format.specs.Block.{Slot}
use Rattle.store_format.specs.Footer.{version_number}
use Rattle.store_format.specs.StoreFile.{IsStore}
use Rattle.store_reader.specs.declared.call_list.ReadCall.{ReadCall}
use Rattle.store_reader.specs.CallAnswers.{exact_results, keys_of_calls, results_of}
use Rattle.store_reader.specs.CachedBlocks.{no_blocks}
use Rattle.store_reader.specs.LookLaws.{AreLookUps}
use Rattle.store_reader.specs.Reading.{Reading, IsSameStore, store_of}
use Rattle.docstore.specs.declared.run.StoreCommand.{StoreCommand}
use Rattle.docstore.specs.Run.{IsWritten}
use Rattle.docstore.specs.Trace.{meaning}
use Rattle.main_theorem.specs.declared.lists.Answered.{Answered}
use Rattle.main_theorem.specs.declared.lists.Asked.{Asked}

-- A reader was opened over this file, with a cache of this capacity that had kept and counted nothing. It was asked these
-- calls, and the answers are exactly those of these slots; the reader that is left has looked up the blocks of the calls.
pub record Answers (file : List ℕ) (capacity : ℕ) (all : List Slot) (calls : List ReadCall)
    (answered : Answered) : Type 0 where
  pub opened : Reading
  pub store : IsStore opened.period file (version_number opened.version) (store_of opened)
  pub cache : opened.cache ≡ no_blocks capacity
  pub same_store : IsSameStore opened answered.reader.value
  pub looks : AreLookUps (keys_of_calls opened.checkpoints calls) opened answered.reader.value
  pub answers : map results_of answered.answers.items ≡ map (exact_results all) calls

-- The file is the one that the commands write, with this period and block size, and each result has its cause. Both
-- readers were opened over it, each with its capacity, and answer each call exactly by the slots that the accepted
-- commands brought.
pub record IsAsked {D H : Type 0} (period size first_capacity second_capacity : ℕ) (doc_bytes : D
    → Option (List ℕ)) (commands left : List (StoreCommand D H)) (asked : Asked) : Type 0 where
  pub written : IsWritten period size doc_bytes commands left asked.results.items [] asked.file.items
  pub first_are : Answers asked.file.items first_capacity (meaning written.trace) asked.calls.items asked.first
  pub second_are : Answers asked.file.items second_capacity (meaning written.trace) asked.calls.items asked.second
