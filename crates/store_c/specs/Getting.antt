-- What the calls that read without opening are answered, by the bytes of the file alone.
use Rattle.std.specs.Prelude.{◌≡◌, ◌⊎◌, ℕ, ◌+◌, ◌<◌, ◌≤◌, List, length, slice_get, slice_range, IfSome}
use Rattle.store_base.specs.Outcome.{number_of}
use Rattle.store_format.specs.declared.footer.DocStoreFooter.{DocStoreFooter}
use Rattle.std.specs.declared.result.Result.TheVariants.{Ok, Err}
use Rattle.store_base.specs.declared.error.StoreError.{StoreError}
use Rattle.store_reader.specs.Opening.{IsSomeStore}
use Rattle.store_reader.specs.StoreSlices.{document_in, IsBlockSlice, RefusesOne}
use Rattle.store_reader.specs.Finding.{FindsFooter}
use Rattle.store_c.specs.declared.place.Place.{Place}
use Rattle.store_c.specs.Calls.{RefusesFile}

-- A part of these bytes. It is the document of this number, if they are the file of a store.
pub record IsPlaceIn (file : List ℕ) (id : ℕ) (p : Place) : Type 0 where
  pub within : p.start + p.len ≤ length file
  pub document : (s : IsSomeStore file) → document_in file s id ≡ Ok (slice_range file p.start (p.start + p.len))

-- The first of these are the places of documents, in the order of their numbers from this one on.
abbrev pub ArePlacesIn : List ℕ → ℕ → List Place → ℕ → Type 0
ArePlacesIn file first places count = (j : ℕ) → j < count → IfSome (slice_get places j) (IsPlaceIn file (first + j))

-- The document of this number is refused so, if the bytes are the file of a store.
abbrev pub IsRefusedIn : List ℕ → ℕ → StoreError → Type 0
IsRefusedIn file id e = (s : IsSomeStore file) → document_in file s id ≡ Err e

-- why there is no place: there is no document of this number, it is damaged, or the index is, which no store's is
abbrev pub RefusesGet : List ℕ → ℕ → StoreError → Type 0
RefusesGet file id e = RefusesOne id e × IsRefusedIn file id e

-- A part of these bytes. It is the block of each of these documents, if they are the file of a store.
pub record HasBlock (file : List ℕ) (first end start : ℕ) (block : List ℕ) : Type 0 where
  pub within : start + length block ≤ length file
  pub stored : (s : IsSomeStore file) → (id : ℕ) → first ≤ id → id < end
      → IsBlockSlice file s id first end start block

-- The bytes are no store's. The refusal with this number is the first of footer and index; or the number is 5, and the
-- index was found damaged.
abbrev pub RefusesUnopened : List ℕ → ℕ → Type 0
RefusesUnopened file number = RefusesFile file number ⊎ ((number ≡ 5) × (IsSomeStore file → ⊥))

-- The footer at the end of these bytes is refused by this number.
pub record RefusesFooter (tail : List ℕ) (number : ℕ) : Type 0 where
  pub error : StoreError
  pub is : number ≡ number_of error
  pub finds : FindsFooter tail (Err error)

-- The footer at the end of these bytes says that the index begins after the footer's first byte, in a file of this
-- length.
pub record HasFarOffset (file_len : ℕ) (tail : List ℕ) : Type 0 where
  pub footer : DocStoreFooter
  pub finds : FindsFooter tail (Ok footer)
  pub past : file_len < footer.offset + 28

-- The footer is refused by this number, or the offset in it is, by 4.
abbrev pub RefusesHead : ℕ → List ℕ → ℕ → Type 0
RefusesHead file_len tail number = RefusesFooter tail number ⊎ ((number ≡ 4) × HasFarOffset file_len tail)
