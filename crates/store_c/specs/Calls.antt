-- What the calls of C are answered.
use Rattle.std.specs.Prelude.{◌≡◌, ◌≢◌, ◌⊎◌, ℕ, ◌+◌, ◌<◌, ◌≤◌, List}
use Rattle.std.specs.Prelude.{length, take, drop}
use Rattle.std.specs.Prelude.{slice_get, slice_range, Option, Some, None, IfSome}
use Rattle.layered_index.specs.declared.checkpoint.Checkpoint.{Checkpoint}
use Rattle.layered_index.specs.Checkpoint.{first_past}
use Rattle.layered_index.specs.Rows.{AreRowsOf}
use Rattle.store_base.specs.Outcome.{number_of}
use Rattle.store_base.specs.declared.error.StoreError.{StoreError}
use Rattle.store_base.specs.declared.error.StoreError.TheVariants.{Memory}
use Rattle.store_format.specs.Block.{Slot, doc, damaged}
use Rattle.store_format.specs.Slots.{slots}
use Rattle.store_format.specs.StoreFile.{checkpoints_of}
use Rattle.store_reader.specs.Opening.{IsSomeStore}
use Rattle.store_reader.specs.StoreSlices.{count_of_store}
use Rattle.store_reader.specs.Finding.{Finds}
use Rattle.std.specs.declared.result.Result.TheVariants.{Err}
use Rattle.layered_index.specs.declared.row.Row.{Row}
use Rattle.store_c.specs.declared.place.Place.{Place}
use Rattle.store_c.specs.declared.refusal.Refusal.{Refusal}
use Rattle.store_c.specs.declared.refusal.Refusal.TheVariants.{NoDocument, Damaged, NoRoom, OtherTable}
use Rattle.store_c.specs.declared.refusal.Refusal.TheVariants.{TailTooShort, OtherBlock}

-- ---- tables

-- These bytes are the file of a store, and this is the table of its blocks.
pub record IsTableOf (file : List ℕ) (table : List Row) : Type 0 where
  pub store : IsSomeStore file
  pub rows : AreRowsOf (checkpoints_of store.blocks) table

-- These bytes are the file of a store, which has this many blocks and documents. The table of its blocks goes over the
-- front of this one, as far as there is room, and the rows after it stay.
pub record Fills (file : List ℕ) (old new : List Row) (count num_docs : ℕ) : Type 0 where
  pub store : IsSomeStore file
  pub blocks : count ≡ length (checkpoints_of store.blocks)
  pub docs : num_docs ≡ count_of_store file store
  pub filled : AreRowsOf (take (length old) (checkpoints_of store.blocks)) (take count new)
  pub rest : drop count new ≡ drop count old

-- These bytes are the file of a store, which has this many blocks and documents.
pub record HasCounts (file : List ℕ) (count num_docs : ℕ) : Type 0 where
  pub store : IsSomeStore file
  pub blocks : count ≡ length (checkpoints_of store.blocks)
  pub docs : num_docs ≡ count_of_store file store

-- what a call returns that needs this much room: 0 if there is as much, and otherwise 32
abbrev pub IsByRoom : ℕ → ℕ → ℕ → Type 0
IsByRoom result need room = ((result ≡ 0) × (need ≤ room)) ⊎ ((result ≡ 32) × (room < need))

-- The refusal with this number is the first of these bytes, memory aside, and they are no store's.
pub record RefusesFile (file : List ℕ) (number : ℕ) : Type 0 where
  pub error : StoreError
  pub is : number ≡ number_of error
  pub finds : Finds file (Err error)
  pub kept : error ≢ Memory
  pub no_store : IsSomeStore file → ⊥

-- ---- places

-- These bytes are the file of a store, and this is its slot at this number.
pub record HasSlot (file : List ℕ) (id : ℕ) (s : Option Slot) : Type 0 where
  pub store : IsSomeStore file
  pub slot : slice_get (slots store.blocks) id ≡ s

-- A part of these bytes. It is the block of each of these documents, if the table is theirs.
pub record IsTableBlock (file : List ℕ) (table : List Row) (c : Checkpoint) : Type 0 where
  pub order : c.byte_range.start ≤ c.byte_range.end
  pub within : c.byte_range.end ≤ length file
  pub sought : (known : IsTableOf file table) → (id : ℕ) → c.doc_range.start ≤ id → id < c.doc_range.end
      → first_past (checkpoints_of known.store.blocks) id ≡ Some c

-- A part of these bytes. It is the document of this number, if the table is theirs.
pub record IsPlace (file : List ℕ) (table : List Row) (id : ℕ) (p : Place) : Type 0 where
  pub within : p.start + p.len ≤ length file
  pub document : IsTableOf file table → HasSlot file id (Some (doc (slice_range file p.start (p.start + p.len))))

-- The first of these are the places of documents, one after the other from this number on.
abbrev pub ArePlaces : List ℕ → List Row → ℕ → List Place → ℕ → Type 0
ArePlaces file table first places count =
    (j : ℕ) → j < count → IfSome (slice_get places j) (IsPlace file table (first + j))

-- the number that C is given
abbrev pub refusal_number : Refusal → ℕ
refusal_number NoDocument = 6
refusal_number Damaged = 7
refusal_number NoRoom = 32
refusal_number OtherTable = 33
refusal_number TailTooShort = 36
refusal_number OtherBlock = 37

-- why there is no document, if the table is that of these bytes; or it is not
abbrev pub RefusesDocument : List ℕ → List Row → ℕ → Refusal → Type 0
RefusesDocument file table id NoDocument = IsTableOf file table → HasSlot file id None
RefusesDocument file table id Damaged = IsTableOf file table → HasSlot file id (Some damaged)
RefusesDocument file table id OtherTable = IsTableOf file table → ⊥
RefusesDocument file table id _ = ⊥
