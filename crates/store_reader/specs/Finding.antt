-- What is found in the bytes of a file, and what is given of them.
use Rattle.std.specs.Prelude.{◌≡◌, ℕ, ◌-◌, ◌<◌, ◌≤◌, List, length, slice_range, Result, Ok, Err}
use Rattle.std.specs.Borrow.{Bor}
use Rattle.std.specs.declared.ops.Range.{Range}
use Rattle.store_base.specs.declared.error.StoreError.{StoreError}
use Rattle.store_base.specs.declared.error.StoreError.TheVariants.{ShortFile, BadOffset}
use Rattle.layered_index.specs.declared.checkpoint.Checkpoint.{Checkpoint}
use Rattle.layered_index.specs.Checkpoint.{Covers, bytes_end}
use Rattle.layered_index.specs.Layers.{Index}
use Rattle.store_format.specs.declared.footer.DocStoreFooter.{DocStoreFooter}
use Rattle.store_format.specs.declared.version.DocStoreVersion.{DocStoreVersion}
use Rattle.store_format.specs.Extraction.{Says}
use Rattle.store_format.specs.Footer.{version_number}
use Rattle.store_reader.specs.Opening.{IndexBy}
use Rattle.store_format.specs.StoreFile.{IsStore, blocks_at}

-- the data that checkpoints have at the front of a file
abbrev pub data_in : List ℕ → List Checkpoint → List ℕ
data_in file cs = slice_range file 0 (bytes_end 0 cs)

-- The checkpoints cover the data, and the bytes are the file of the store that they cut from it.
pub record IsStoreBy (file : List ℕ) (cs : List Checkpoint) (period : ℕ) (version : DocStoreVersion) : Type 0 where
  pub covers : Covers cs (length (data_in file cs))
  pub store : IsStore period file (version_number version) (blocks_at cs (data_in file cs))

-- The last 28 bytes, if there are this many, decide on the footer.
pub record FindsFooter (bytes : List ℕ) (result : Result DocStoreFooter StoreError) : Type 0 where
  pub short : length bytes < 28 → result ≡ Err (ShortFile (length bytes))
  pub long : 28 ≤ length bytes → Says (slice_range bytes (length bytes - 28) (length bytes)) result

-- What stands between the offset and the footer, if the offset is not past that, decides on the index. Memory may run
-- out.
pub record FindsIndex (bytes : List ℕ) (footer : DocStoreFooter) (result : Result Index StoreError) : Type 0 where
  pub past : length bytes - 28 < footer.offset → result ≡ Err BadOffset
  pub within : footer.offset ≤ length bytes - 28 → IndexBy footer
      (slice_range bytes footer.offset (length bytes - 28)) result

abbrev pub FindsFrom : List ℕ → Result DocStoreFooter StoreError → Result (DocStoreFooter × Index) StoreError → Type 0
FindsFrom bytes (Err e) result = result ≡ Err e
FindsFrom bytes (Ok footer) (Ok found) = (found.0 ≡ footer) × FindsIndex bytes footer (Ok found.1)
FindsFrom bytes (Ok footer) (Err e) = FindsIndex bytes footer (Err e)

-- The footer and then the index; the first refusal counts.
pub record Finds (bytes : List ℕ) (result : Result (DocStoreFooter × Index) StoreError) : Type 0 where
  pub footer : Result DocStoreFooter StoreError
  pub reads : FindsFooter bytes footer
  pub goes_on : FindsFrom bytes footer result

-- the bytes that were given
abbrev pub given : Result (Bor (List ℕ)) StoreError → Result (List ℕ) StoreError
given (Ok bytes) = Ok bytes.now
given (Err e) = Err e

-- the bytes of a place in a file
abbrev pub placed_in : List ℕ → Result (Range ℕ) StoreError → Result (List ℕ) StoreError
placed_in file (Ok r) = Ok (slice_range file r.start r.end)
placed_in file (Err e) = Err e
