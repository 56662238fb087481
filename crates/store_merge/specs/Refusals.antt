-- Why a merge ends early, and what that leaves.
use Rattle.std.specs.Prelude.{◌≡◌, ◌⊎◌, ℕ, ◌-◌, ◌<◌, ◌≤◌, ◌^◌, Bool, true, false}
use Rattle.std.specs.Prelude.{IsTrue, List, ◌++◌, take, slice_get}
use Rattle.std.specs.Prelude.{Option, Some, None}
use Rattle.store_base.specs.Counts.{HasRisen}
use Rattle.store_base.specs.declared.error.StoreError.{StoreError}
use Rattle.store_base.specs.declared.error.StoreError.TheVariants.{DamagedDocument, Read, Memory, BlockTooLarge}
use Rattle.store_base.specs.declared.error.StoreError.TheVariants.{TooManyDocs, Failed}
use Rattle.store_format.specs.Block.{Slot, doc, damaged}
use Rattle.store_reader.specs.Iteration.{is_in, alive, flags_of}
use Rattle.docstore.specs.Laws.{taken}
use Rattle.store_reader.specs.Reading.{Reading, num_docs as docs_of, store_of}
use Rattle.store_format.specs.Slots.{slots}
use Rattle.store_reader.specs.Walking.{IsSteadyBetween}
use Rattle.docstore.specs.Stacking.{HasTooMany}
use Rattle.docstore.specs.Writer.{Writing, num_docs, IsTooLarge, AfterFailed}
use Rattle.store_merge.specs.declared.input.MergeInput.{MergeInput}
use Rattle.store_merge.specs.Choice.{is_stacked, alive_slots}
use Rattle.store_merge.specs.Bringing.{IsCopied}

-- Why the bytes of a document were refused, and what that leaves of the writer.
abbrev pub RefusesBytes : List ℕ → Writing → Writing → StoreError → Type 0
RefusesBytes bytes old new Memory = (old.output.failure ≡ None) × (new ≡ old)
RefusesBytes bytes old new TooManyDocs = (old.output.failure ≡ None) × (num_docs old ≡ 2 ^ 32 - 1) × (new ≡ old)
RefusesBytes bytes old new BlockTooLarge = IsTooLarge old bytes × (new ≡ old)
RefusesBytes bytes old new (Failed cause) = AfterFailed old.output.failure cause old new
RefusesBytes bytes old new _ = ⊥

-- Why a document did not come of its file: it is damaged, a read failed, or memory ran out.
abbrev pub RefusesItem : ℕ → Reading → Reading → StoreError → Type 0
RefusesItem id old new (DamagedDocument k) = (k ≡ id) × (IsTrue old.file.honest
    → slice_get (slots (store_of old)) id ≡ Some damaged)
RefusesItem id old new Read = HasRisen old.file.failures new.file.failures
RefusesItem id old new Memory = Unit {0}
RefusesItem id old new _ = ⊥

-- The bytes of a document came, and the writer refused them.
pub record RefusesDocument (id : ℕ) (reader : Reading) (old new : Writing) (e : StoreError) : Type 0 where
  pub bytes : List ℕ
  pub came : IsTrue reader.file.honest → slice_get (slots (store_of reader)) id ≡ Some (doc bytes)
  pub refused : RefusesBytes bytes old new e

-- The copying of a store stops at a document that is alive, after all that are alive before it. Where that is not for a
-- failed read, no read failed, but of a block before it of which no document is alive.
pub record StopsAt (set : Option (ℕ → Bool)) (reader read : Reading) (old new : Writing) (e : StoreError)
    : Type 0 where
  pub id : ℕ
  pub below : id < docs_of reader
  pub is_alive : is_in set id ≡ true
  pub before : Writing
  pub copied : IsCopied reader.file.honest (alive (take id (slots (store_of reader))) set) old before
  pub count : old.output.failures ≤ before.output.failures
  pub cause : (RefusesItem id reader read e × (new ≡ before)) ⊎ RefusesDocument id reader before new e
  pub steady : (e ≡ Read) ⊎ IsSteadyBetween set reader read 0 id

-- Why a store was not stacked, and what that leaves of the writer: this where its data was refused.
abbrev pub RefusesStore : (Reading → Writing → Writing → Type 0) → Reading → Reading → Writing
    → Writing → StoreError
    → Type 0
RefusesStore Left reader read old new TooManyDocs = HasTooMany old reader × (new ≡ old)
RefusesStore Left reader read old new Memory = Left reader old new × (read.file.failures ≡ reader.file.failures)
RefusesStore Left reader read old new Read = Left reader old new × HasRisen reader.file.failures read.file.failures
RefusesStore Left reader read old new (Failed cause) = AfterFailed old.output.failure cause old new
RefusesStore Left reader read old new _ = ⊥

-- Why an input was refused, and what that leaves of the writer.
abbrev pub RefusesInput : {H : Type 0} → (Reading → Writing → Writing → Type 0) → MergeInput H
    → MergeInput H → Writing
    → Writing → StoreError → Type 0
RefusesInput Left x left old new e =
    ((is_stacked x ≡ true) × RefusesStore Left x.reader left.reader old new e)
    ⊎ ((is_stacked x ≡ false) × StopsAt (flags_of x.alive) x.reader left.reader old new e)

-- A beginning of the alive slots of an input is after what was taken before.
pub record HasGrown {H : Type 0} (x : MergeInput H) (old new : Writing) : Type 0 where
  pub more : List Slot
  pub grown : taken new ≡ taken old ++ more
  pub front : IsTrue x.reader.file.honest → (rest : List Slot) × (alive_slots x ≡ more ++ rest)
