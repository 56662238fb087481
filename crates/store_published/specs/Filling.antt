-- What fills a store, and what a publication of it leaves.
use Rattle.std.specs.Prelude.{◌≡◌, ◌⊎◌, ℕ, List, ◌++◌, length, map, Some}
use Rattle.store_format.specs.Block.{Slot, doc}
use Rattle.store_format.specs.Slots.{slots}
use Rattle.store_format.specs.StoreFile.{StoreBlock, file, IsStore}
use Rattle.docstore.specs.Laws.{taken}
use Rattle.docstore.specs.Writer.{Writing, IsSameFile, with_documents, with_failures}
use Rattle.store_folder.specs.Folder.{Look, ElsewhereOfBoth}
use Rattle.store_published.specs.declared.publishing.Written.{Written}

-- These documents were put after those of a writer, in the same file.
pub record AddsDocuments (documents : List (List ℕ)) (old new : Writing) : Type 0 where
  pub grown : taken new ≡ taken old ++ map doc documents
  pub file : IsSameFile old new
  pub stored : new ≡ with_failures new.output.failures (with_documents old documents)

-- Some documents were.
abbrev pub AddsSome : Writing → Writing → Type 0
AddsSome old new = (documents : List (List ℕ)) × AddsDocuments documents old new

-- Each of these slots has a document.
abbrev pub AreSound : List Slot → Type 0
AreSound all = (documents : List (List ℕ)) × (all ≡ map doc documents)

-- These bytes are the file of a store of this period, with blocks that are cut so, whose slots were brought.
pub record IsStoreOf (brought : List Slot → Type 0) (cut : List StoreBlock → Type 0) (period : ℕ) (content : List ℕ) : Type 0 where
  pub blocks : List StoreBlock
  pub is_file : content ≡ file period 3 blocks
  pub store : IsStore period content 3 blocks
  pub came : brought (slots blocks)
  pub cut_is : cut blocks

-- The numbers are those of a file with these blocks.
pub record AreNumbersOf (content : List ℕ) (blocks : List StoreBlock) (written : Written) : Type 0 where
  pub documents : written.documents ≡ length (slots blocks)
  pub count : written.blocks ≡ length blocks
  pub bytes : written.bytes ≡ length content

-- Under the name there is what a crash might have left there before, or a whole new file. No other name but the one
-- beside is touched.
pub record IsOldOrNew (before : Look → Type 0) (beside name : List ℕ) (is_new : List ℕ → Type 0) (c : Look) : Type 0 where
  pub old : Look
  pub was : before old
  pub at_name : (c name ≡ old name) ⊎ ((content : List ℕ) × is_new content × (c name ≡ Some content))
  pub elsewhere : ElsewhereOfBoth beside name old c
