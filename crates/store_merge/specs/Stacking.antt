-- How the stores of a merge are stacked.
use Rattle.std.specs.Prelude.{◌≡◌, ℕ, true, IsTrue, List, ◌++◌}
use Rattle.store_format.specs.Block.{Slot}
use Rattle.store_format.specs.Slots.{slots}
use Rattle.docstore.specs.Laws.{taken}
use Rattle.store_reader.specs.Reading.{Reading, IsReadWhole, store_of}
use Rattle.docstore.specs.Stacking.{IsFlushed}
use Rattle.store_reader.specs.Parts.{number_of_parts}
use Rattle.docstore.specs.StackingInParts.{IsReadInPieces, BeginsStack}
use Rattle.docstore.specs.Writer.{Writing}
use Rattle.store_merge.specs.declared.input.MergeInput.{MergeInput}
use Rattle.store_merge.specs.declared.stacking.Stacking.{Stacking}
use Rattle.store_merge.specs.declared.stacking.Stacking.TheVariants.{Whole, InParts}
use Rattle.store_merge.specs.Choice.{is_stacked}

-- What a stacking leaves of a writer whose reads or memory were refused. Stacked as a whole, nothing of the store came.
abbrev pub LeavesFlushed : Reading → Writing → Writing → Type 0
LeavesFlushed reader old new = IsFlushed old new

-- The same, by how it was stacked. In parts, the first blocks came.
abbrev pub Leaves : Stacking → Reading → Writing → Writing → Type 0
Leaves Whole reader old new = LeavesFlushed reader old new
Leaves (InParts size) reader old new = BeginsStack reader old new

-- The store's whole data was read, once for each of its parts of this many bytes.
abbrev pub IsReadInParts : ℕ → Reading → Reading → Type 0
IsReadInParts size old new = IsReadInPieces (number_of_parts size old.checkpoints) old new

-- the same, by how it was stacked
abbrev pub IsReadBy : Stacking → Reading → Reading → Type 0
IsReadBy Whole old new = IsReadWhole old new
IsReadBy (InParts size) old new = IsReadInParts size old new

-- The input was read so if it is stacked.
abbrev pub IsStackedBy : {H : Type 0} → (Reading → Reading → Type 0) → MergeInput H → MergeInput H → Type 0
IsStackedBy Reads x left = is_stacked x ≡ true → Reads x.reader left.reader

-- A beginning of the slots of a store is after what was taken before.
pub record BeginsSlots (reader : Reading) (old new : Writing) : Type 0 where
  pub more : List Slot
  pub grown : taken new ≡ taken old ++ more
  pub front : IsTrue reader.file.honest → (rest : List Slot) × (slots (store_of reader) ≡ more ++ rest)
