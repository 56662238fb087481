-- What a check of a file's index finds.
use Rattle.std.specs.Prelude.{◌≡◌, ℕ, ◌-◌, ◌≤◌, List, length, take, drop, slice_range, Option, Some, None, Ok}
use Rattle.layered_index.specs.declared.index_fault.IndexFault.{IndexFault}
use Rattle.layered_index.specs.IndexReading.{HasIndex}
use Rattle.layered_index.specs.Faults.{IsFirstFault}
use Rattle.store_format.specs.declared.footer.DocStoreFooter.{DocStoreFooter}
use Rattle.layered_index.specs.declared.row.Row.{Row}
use Rattle.layered_index.specs.Rows.{AreRowsOf}
use Rattle.store_format.specs.StoreFile.{checkpoints_of}
use Rattle.store_reader.specs.declared.store_check.CheckedStore.{CheckedStore}
use Rattle.store_reader.specs.Opening.{IsSomeStore}
use Rattle.store_reader.specs.StoreSlices.{count_of_store}
use Rattle.store_reader.specs.Finding.{FindsFooter}

-- The bytes are the index of a list in line, or this is their first fault.
abbrev pub IsCheckOf : ℕ → List ℕ → Option IndexFault → Type 0
IsCheckOf period part None = HasIndex period part
IsCheckOf period part (Some fault) = (HasIndex period part → ⊥) × IsFirstFault period part fault

-- The file's footer says that the index begins there and which period it has, and this is what a check of it finds.
pub record BreaksIndex (file : List ℕ) (start : ℕ) (fault : Option IndexFault) : Type 0 where
  pub footer : DocStoreFooter
  pub reads : FindsFooter file (Ok footer)
  pub starts : start ≡ footer.offset
  pub within : start ≤ length file - 28
  pub found : IsCheckOf footer.period (slice_range file start (length file - 28)) fault

-- The bytes are the file of a store with this many blocks and documents. The rows of its blocks go over the front of
-- these, as far as there is room, and the rows after them stay.
pub record IsCheckedStore (file : List ℕ) (x : CheckedStore) (before after : List Row) : Type 0 where
  pub store : IsSomeStore file
  pub blocks : x.blocks ≡ length (checkpoints_of store.blocks)
  pub docs : x.docs ≡ count_of_store file store
  pub rows : AreRowsOf (take (length before) (checkpoints_of store.blocks)) (take x.blocks after)
  pub rest : drop x.blocks after ≡ drop x.blocks before
