-- Why the documents of a store were not all given, and which were given before.
use Rattle.std.specs.Prelude.{◌≡◌, ℕ, ◌+◌, ◌<◌, Bool, true, IsTrue, List, take, slice_get, Option, Some}
use Rattle.store_base.specs.Counts.{HasRisen}
use Rattle.store_base.specs.declared.error.StoreError.{StoreError}
use Rattle.store_base.specs.declared.error.StoreError.TheVariants.{DamagedDocument, Read, Memory}
use Rattle.store_format.specs.Block.{Slot, doc, damaged, slot}
use Rattle.store_format.specs.Slots.{slots}
use Rattle.store_reader.specs.Iteration.{is_in}
use Rattle.store_reader.specs.Reading.{Reading, num_docs, store_of}
use Rattle.store_commands.specs.declared.block_walk.GivingError.{GivingError}
use Rattle.store_commands.specs.declared.block_walk.GivingError.TheVariants.{Store, Target}
use Rattle.store_commands.specs.Checks.{slots_in}
use Rattle.store_commands.specs.Documents.{numbered, numbered_from, TakesSlots}

-- Why the document of a slot was not given: it is damaged, and the target is as it was; or the target refused it.
abbrev pub RefusesSlot : {T E : Type 0} → (T → ℕ → List ℕ → T → Type 0) → ℕ → Slot → T → T → GivingError E → Type 0
RefusesSlot refuses id s old new (Store e) = (e ≡ DamagedDocument id) × (s ≡ damaged) × (new ≡ old)
RefusesSlot refuses id s old new (Target e) = (bytes : List ℕ) × (s ≡ doc bytes) × refuses old id bytes new

-- The documents of a block that are in the set were given up to one of them, and this one was not. The block's first
-- document has this id.
pub record EndsBlock {T E : Type 0} (takes refuses : T → ℕ → List ℕ → T → Type 0) (set : Option (ℕ → Bool)) (first : ℕ)
    (block : List ℕ) (count : ℕ) (old new : T) (e : GivingError E) : Type 0 where
  pub position : ℕ
  pub below : position < count
  pub kept : is_in set (first + position) ≡ true
  pub before : T
  pub given : TakesSlots takes (numbered_from first (slots_in block position) set) old before
  pub cause : RefusesSlot refuses (first + position) (slot block position) before new e

-- A target took the documents of a store that are in the set and below this id, in order, if the file is honest.
pub record HasTakenTo {T : Type 0} (takes : T → ℕ → List ℕ → T → Type 0) (set : Option (ℕ → Bool)) (reader : Reading)
    (id : ℕ) (old new : T) : Type 0 where
  pub below : id < num_docs reader
  pub given : IsTrue reader.file.honest → TakesSlots takes (numbered (take id (slots (store_of reader))) set) old new

-- All before a document of the set were taken, and this one is damaged.
pub record IsDamagedAt {T : Type 0} (takes : T → ℕ → List ℕ → T → Type 0) (set : Option (ℕ → Bool)) (reader : Reading)
    (id : ℕ) (old new : T) : Type 0 where
  pub before : HasTakenTo takes set reader id old new
  pub kept : is_in set id ≡ true
  pub is : IsTrue reader.file.honest → slice_get (slots (store_of reader)) id ≡ Some damaged

-- All before a document of the set were taken, and the target refused this one.
pub record IsRefusedAt {T : Type 0} (takes refuses : T → ℕ → List ℕ → T → Type 0) (set : Option (ℕ → Bool))
    (reader : Reading) (old new : T) : Type 0 where
  pub id : ℕ
  pub middle : T
  pub before : HasTakenTo takes set reader id old middle
  pub kept : is_in set id ≡ true
  pub bytes : List ℕ
  pub is : IsTrue reader.file.honest → slice_get (slots (store_of reader)) id ≡ Some (doc bytes)
  pub refused : refuses middle id bytes new

-- The giving ended at a block that did not come: all before it were taken.
abbrev pub EndsAtBlock : {T : Type 0} → (T → ℕ → List ℕ → T → Type 0) → Option (ℕ → Bool) → Reading → T → T → Type 0
EndsAtBlock takes set reader old new = (id : ℕ) × HasTakenTo takes set reader id old new

-- What an error of the store says of the documents that were given, and of the file's count of failures: it rose exactly
-- where a read is reported.
abbrev pub EndsByStore : {T : Type 0} → (T → ℕ → List ℕ → T → Type 0) → Option (ℕ → Bool) → Reading → Reading → T → T
    → StoreError → Type 0
EndsByStore takes set reader read old new (DamagedDocument id) = IsDamagedAt takes set reader id old new
    × (read.file.failures ≡ reader.file.failures)
EndsByStore takes set reader read old new Read = EndsAtBlock takes set reader old new
    × HasRisen reader.file.failures read.file.failures
EndsByStore takes set reader read old new Memory = EndsAtBlock takes set reader old new
    × (read.file.failures ≡ reader.file.failures)
EndsByStore takes set reader read old new _ = ⊥

-- The same of any error.
abbrev pub EndsGiving : {T E : Type 0} → (takes refuses : T → ℕ → List ℕ → T → Type 0) → Option (ℕ → Bool) → Reading
    → Reading → T → T → GivingError E → Type 0
EndsGiving takes refuses set reader read old new (Store e) = EndsByStore takes set reader read old new e
EndsGiving takes refuses set reader read old new (Target e) = IsRefusedAt takes refuses set reader old new
    × (read.file.failures ≡ reader.file.failures)

-- The target failed exactly where the error is its own.
abbrev pub HasTargetFailed : {E : Type 0} → ℕ → ℕ → GivingError E → Type 0
HasTargetFailed old new (Store e) = new ≡ old
HasTargetFailed old new (Target e) = HasRisen old new
