-- The end of a store's file, where the rest of the file is elsewhere.
use Rattle.std.specs.Prelude.{◌≡◌, ℕ, ◌+◌, ◌<◌, ◌≤◌, ◌-◌, List, ◌++◌, length, slice_range, Ok, Err}
use Rattle.store_base.specs.declared.error.StoreError.{StoreError}
use Rattle.store_base.specs.declared.error.StoreError.TheVariants.{ShortFile}
use Rattle.layered_index.specs.Layers.{index_part}
use Rattle.layered_index.specs.Sought.{IndexBytes}
use Rattle.store_format.specs.declared.footer.DocStoreFooter.{DocStoreFooter}
use Rattle.store_format.specs.declared.version.DocStoreVersion.{DocStoreVersion}
use Rattle.store_format.specs.Footer.{version_number}
use Rattle.store_format.specs.StoreFile.{checkpoints_of}
use Rattle.store_reader.specs.declared.tail_error.TailError.{TailError}
use Rattle.store_reader.specs.declared.tail_error.TailError.TheVariants.{Short, Store}
use Rattle.store_reader.specs.Opening.{IsSomeStore}
use Rattle.store_reader.specs.StoreSlices.{IsLaidOut}
use Rattle.store_reader.specs.Finding.{FindsFooter, Finds}

-- how long a file is, and the last bytes of it
pub record TailBytes : Type 0 where
  pub file_len : ℕ
  pub bytes : List ℕ

-- These are the last bytes of the file, which is so long.
pub record IsTailOf (file : List ℕ) (file_len : ℕ) (tail : List ℕ) : Type 0 where
  pub front : List ℕ
  pub parts : file ≡ front ++ tail
  pub len_is : file_len ≡ length file

-- What always holds: the data and a footer lie in the file, and the parts are those of the store, if the file is one's.
pub record IsStoreTail (file_len : ℕ) (tail : List ℕ) (data_len : ℕ) (index : IndexBytes)
    (version : DocStoreVersion) : Type 0 where
  pub within : data_len + 28 ≤ file_len
  pub laid_out : (file : List ℕ) → IsTailOf file file_len tail → (s : IsSomeStore file)
      → IsLaidOut file data_len index (version_number version) s

-- The footer at the end of these bytes is read, and the index begins where it says: in them, and before the footer of a
-- file of this length.
pub record HasIndexIn (file_len : ℕ) (tail : List ℕ) : Type 0 where
  pub footer : DocStoreFooter
  pub reads : FindsFooter tail (Ok footer)
  pub within : footer.offset + 28 ≤ file_len
  pub whole : file_len ≤ footer.offset + length tail

-- The tail lacks bytes, and this many are enough: a footer's, or all from where the footer says that the index begins.
pub record IsWanted (file_len : ℕ) (tail : List ℕ) (wanted : ℕ) : Type 0 where
  pub short : length tail < wanted
  pub within : wanted ≤ file_len
  pub footer : length tail < 28 → wanted ≡ 28
  pub index : 28 ≤ length tail → (f : DocStoreFooter) × FindsFooter tail (Ok f) × (f.offset + wanted ≡ file_len)
  pub stored : 28 ≤ length tail → (file : List ℕ) → IsTailOf file file_len tail → (s : IsSomeStore file)
      → wanted ≡ length (index_part s.period (checkpoints_of s.blocks)) + 28

-- Each file with this end is refused so, and is no store's. A tail that is longer than the file is refused by the
-- length of the file.
pub record RefusesTail (file_len : ℕ) (tail : List ℕ) (e : StoreError) : Type 0 where
  pub finds : (file : List ℕ) → IsTailOf file file_len tail → Finds file (Err e)
  pub no_store : (file : List ℕ) → IsTailOf file file_len tail → IsSomeStore file → ⊥
  pub longer : file_len < length tail → e ≡ ShortFile file_len

-- why the end of a file isn't opened
abbrev pub RefusesEnd : ℕ → List ℕ → TailError → Type 0
RefusesEnd file_len tail (Short wanted) = IsWanted file_len tail wanted
RefusesEnd file_len tail (Store e) = RefusesTail file_len tail e

-- ---- laws

-- One whose tail has a footer and is refused names how many bytes are enough: a longer end of the same file, with
-- this many, is not refused for that again.
abbrev pub TailsAreWantedOnce : Type 0
TailsAreWantedOnce = (file_len : ℕ) (tail more : List ℕ) (wanted again : ℕ) → 28 ≤ length tail
    → IsWanted file_len tail wanted → wanted ≤ length more → slice_range more (length more - 28) (length more)
    ≡ slice_range tail (length tail - 28) (length tail) → IsWanted file_len more again → ⊥
