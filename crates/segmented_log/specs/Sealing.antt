-- The stores that a log makes of its tail's records.
use Rattle.std.specs.Prelude.{◌≡◌, ◌⊎◌, ℕ, List, Some}
use Rattle.store_folder.specs.Folder.{Look}
use Rattle.store_format.specs.StoreFile.{StoreBlock, file}
use Rattle.docstore.specs.Trace.{AreFlushed}
use Rattle.segmented_log.specs.Names.{segment_name}

-- These bytes are the file of a store of documents, with a period of 8, whose blocks are cut at a block size of 16384.
pub record IsPacked (content : List ℕ) : Type 0 where
  pub documents : List (List ℕ)
  pub blocks : List StoreBlock
  pub cut : AreFlushed 16384 documents blocks
  pub is_file : content ≡ file 8 3 blocks

-- The name of a segment has such a file.
abbrev pub HasPacked : Look → ℕ → Type 0
HasPacked c first = (content : List ℕ) × IsPacked content × (c (segment_name first) ≡ Some content)

-- Each name of a segment has what it had, or such a file.
abbrev pub AddsPacked : Look → Look → Type 0
AddsPacked old new = (first : ℕ) → (new (segment_name first) ≡ old (segment_name first)) ⊎ HasPacked new first
