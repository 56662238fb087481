-- What `log append` leaves of a log.
use Rattle.std.specs.Prelude.{◌≡◌, ℕ, ◌+◌, List, [], ◌++◌, length, map, Option, IfSome}
use Rattle.std.specs.Io.KnownBytes.{Appends}
use Rattle.framed_logs.specs.Printed.{number_lines}
use Rattle.segmented_log.specs.Log.{IsBlank, IsLog, LogView}
use Rattle.store_folder.specs.Folder.{Look}
use Rattle.store_format.specs.Block.{Slot, doc}

-- A log was opened in a folder of these files: it has the slots of the log that was there, or none where none was, and no
-- record waits.
pub record IsOpened {F : Type 0} (files : Look) (log : LogView F) : Type 0 where
  pub found : (first : ℕ) (all : List Slot) → IsLog first all files → (log.first ≡ first) × (log.slots ≡ all)
  pub begun : IsBlank files → (log.first ≡ 0) × (log.slots ≡ [])
  pub pending : log.pending ≡ []

-- A log has these slots, and then one for each of the documents, those that are known. An output has exactly their numbers
-- more, each on a line.
pub record HasAppended {F : Type 0} (first : ℕ) (all : List Slot) (known : Option (List (List ℕ))) (log : LogView F) (before after : Option (List ℕ)) : Type 0 where
  pub documents : List (List ℕ)
  pub are_all : IfSome known (λ known. documents ≡ known)
  pub first_is : log.first ≡ first
  pub slots_are : log.slots ≡ all ++ map doc documents
  pub pending : log.pending ≡ []
  pub lines : Appends before after (number_lines (first + length all) (length documents))

-- So it is of the log that a folder of these files has, and of a new one where one can begin.
pub record Appended {F : Type 0} (files : Look) (known : Option (List (List ℕ))) (log : LogView F) (before after : Option (List ℕ)) : Type 0 where
  pub after_log : (first : ℕ) (all : List Slot) → IsLog first all files → HasAppended first all known log before after
  pub begun : IsBlank files → HasAppended 0 [] known log before after
