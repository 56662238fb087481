-- What a store has to which documents were appended.
use Rattle.std.specs.Prelude.{◌≡◌, ℕ, IsTrue, List, ◌++◌, map, Option, Some}
use Rattle.docstore.specs.Laws.{taken}
use Rattle.docstore.specs.Writer.{Writing}
use Rattle.store_format.specs.Block.{Slot, doc}
use Rattle.store_format.specs.Slots.{slots}
use Rattle.store_reader.specs.Reading.{Reading, store_of}

-- The slots of a writer have grown by those of a store, if its file is honest.
abbrev pub CopiesStore : Writing → Writing → Reading → Type 0
CopiesStore old new reader = IsTrue reader.file.honest → taken new ≡ taken old ++ slots (store_of reader)

-- A store was copied, and documents of which this holds follow it: all slots are those of the store, if its file is
-- honest, and then those of the documents.
pub record IsAppended (copied : Option Reading) (these : List (List ℕ) → Type 0) (all : List Slot) : Type 0 where
  pub reader : Reading
  pub is : copied ≡ Some reader
  pub documents : List (List ℕ)
  pub came : these documents
  pub slots_are : IsTrue reader.file.honest → all ≡ slots (store_of reader) ++ map doc documents
