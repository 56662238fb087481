-- Which store a file has, a reader of it, and one that was published.
use Rattle.std.specs.Prelude.{◌≡◌, ◌⊎◌, ℕ, List, Bool, false, Option, Some}
use Rattle.store_files.specs.Disk.{Disk, seen}
use Rattle.store_folder.specs.Folder.{Keeps}
use Rattle.store_commands.specs.Tails.{HasTail, HasNoTail}
use Rattle.store_format.specs.Footer.{version_number}
use Rattle.store_format.specs.StoreFile.{IsStore}
use Rattle.store_reader.specs.Reading.{Reading, store_of}

-- There is a file, and these bytes are what it has before the bytes of tantivy's directory, or all of it where it has none
-- and need have none.
abbrev pub HasStore : Bool → Option (List ℕ) → List ℕ → Type 0
HasStore is_tantivy file store = (bytes : List ℕ) × (file ≡ Some bytes)
    × (HasTail bytes store ⊎ (HasNoTail bytes × (store ≡ bytes) × (is_tantivy ≡ false)))

-- The reader has the store that the file has.
abbrev pub IsReaderOf : Bool → Option (List ℕ) → Reading → Type 0
IsReaderOf is_tantivy file reader = (bytes : List ℕ) × HasStore is_tantivy file bytes
    × IsStore reader.period bytes (version_number reader.version) (store_of reader)

-- Bytes of which this holds are in the file of a name, and every crash leaves just these there.
pub record IsPublished (name : List ℕ) (d : Disk) (is : List ℕ → Type 0) : Type 0 where
  pub content : List ℕ
  pub are : is content
  pub seen_is : seen d name ≡ Some content
  pub kept : Keeps name (Some content) d.leaves
