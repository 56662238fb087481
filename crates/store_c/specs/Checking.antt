-- What the full check of a file returns to C.
use Rattle.std.specs.Prelude.{◌≡◌, ℕ, ◌+◌, ◌-◌, ◌^◌, ◌<◌, List, slice_get, Option, Some, None}
use Rattle.layered_index.specs.declared.index_fault.IndexFault.{IndexFault}
use Rattle.store_format.specs.Block.{damaged}
use Rattle.store_format.specs.Slots.{slots}
use Rattle.store_format.specs.StoreFile.{StoreBlock}
use Rattle.store_reader.specs.IndexChecks.{BreaksIndex}
use Rattle.store_reader.specs.Opening.{IsSomeStore}
use Rattle.store_c.specs.declared.fault.Fault.{Fault}

-- no document before this one is damaged
abbrev pub AreWholeTo : List StoreBlock → ℕ → Type 0
AreWholeTo blocks end = (id : ℕ) → id < end → slice_get (slots blocks) id ≡ Some damaged → ⊥

-- These bytes are the file of a store, and no document of it is damaged.
pub record IsSoundFile (file : List ℕ) : Type 0 where
  pub store : IsSomeStore file
  pub whole : (id : ℕ) → slice_get (slots store.blocks) id ≡ Some damaged → ⊥

-- These bytes are the file of a store, and this is the first of its documents that is damaged. No other number is set.
pub record IsFirstDamaged (file : List ℕ) (at : Fault) : Type 0 where
  pub store : IsSomeStore file
  pub is : slice_get (slots store.blocks) at.doc_id ≡ Some damaged
  pub before : AreWholeTo store.blocks at.doc_id
  pub no_byte : at.byte ≡ 0
  pub no_layer : at.layer ≡ 0

-- the number of a layer
abbrev pub IsLayerNumber : Option ℕ → ℕ → Type 0
IsLayerNumber None number = number ≡ 2 ^ 32 - 1
IsLayerNumber (Some layer) number = layer < 2 ^ 32 → number ≡ layer

-- the place of a fault in an index that begins there, or of one that has none
abbrev pub IsPlaceOf : ℕ → Option IndexFault → Fault → Type 0
IsPlaceOf start None at = (at.byte ≡ start) × (at.layer ≡ 2 ^ 32 - 2)
IsPlaceOf start (Some fault) at =
    (start + fault.byte < 2 ^ 64 → at.byte ≡ start + fault.byte) × IsLayerNumber fault.layer at.layer

-- Where the index of this file first breaks a rule; or its start, where it is the index of a list in line. No document
-- is set.
pub record IsIndexFault (file : List ℕ) (at : Fault) : Type 0 where
  pub start : ℕ
  pub fault : Option IndexFault
  pub breaks : BreaksIndex file start fault
  pub place : IsPlaceOf start fault at
  pub no_document : at.doc_id ≡ 0
