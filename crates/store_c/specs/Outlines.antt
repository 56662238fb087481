-- What the calls that read by rows of one layer of the index are answered.
use Rattle.std.specs.Prelude.{◌≡◌, ℕ, ◌+◌, ◌≤◌, List, length, slice_range, Ok, Err}
use Rattle.store_base.specs.declared.error.StoreError.{StoreError}
use Rattle.layered_index.specs.declared.row.Row.{Row}
use Rattle.store_reader.specs.declared.store_head.StoreHead.{StoreHead}
use Rattle.store_reader.specs.Opening.{IsSomeStore}
use Rattle.store_reader.specs.StoreSlices.{document_in, IsOutline, RefusesOne}
use Rattle.store_c.specs.declared.place.Place.{Place}

-- A part of these bytes. It is the document of this number, if they are the file of a store and these are its numbers
-- and rows.
pub record IsPlaceBy (file : List ℕ) (head : StoreHead) (rows : List Row) (id : ℕ) (p : Place) : Type 0 where
  pub within : p.start + p.len ≤ length file
  pub document : (s : IsSomeStore file) → IsOutline file s head rows
      → document_in file s id ≡ Ok (slice_range file p.start (p.start + p.len))

-- The document of this number is refused so, if the bytes are the file of a store and these are its numbers and rows.
abbrev pub RefusesBy : List ℕ → StoreHead → List Row → ℕ → StoreError → Type 0
RefusesBy file head rows id e =
    RefusesOne id e × ((s : IsSomeStore file) → IsOutline file s head rows → document_in file s id ≡ Err e)
