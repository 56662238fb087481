-- What breaks a promise of the format in the blocks of a store.
use Rattle.std.specs.Prelude.{◌≡◌, ◌≢◌, ℕ, ◌+◌, ◌*◌, ◌<◌, ◌≤◌, Bool, true, false, ◌&&◌, ◌||◌, not, ◌==◌, nat_le}
use Rattle.std.specs.Prelude.{List, [], ◌∷◌, ◌++◌, length, map, IfSome, is_none}
use Rattle.std.specs.List.{count_by, list_all, list_any, range_with_len}
use Rattle.store_format.specs.Block.{Slot, doc, damaged, slot, count_of, start_of}
use Rattle.store_format.specs.Slots.{slots}
use Rattle.store_format.specs.StoreFile.{StoreBlock, docs_in, data_of}
use Rattle.store_commands.specs.declared.checking.Fault.{Fault}
use Rattle.store_commands.specs.declared.checking.Fault.TheVariants.{Table, Slot as DamagedSlot}
use Rattle.store_commands.specs.declared.checking.FaultPlace.{FaultPlace}
use Rattle.store_commands.specs.declared.checking.TableFault.{TableFault}
use Rattle.store_commands.specs.declared.checking.TableFault.TheVariants.{Short, Count, Large, Start}
use Rattle.store_commands.specs.declared.checking.Verdict.{Verdict}
use Rattle.store_commands.specs.Blocks.{AreWhole}

-- ---- who watches a check

-- A watch has watched these blocks, in order: how many documents and bytes each has.
abbrev pub HasWatched : {P : Type 0} → (P → ℕ → ℕ → P → Type 0) → List StoreBlock → P → P → Type 0
HasWatched adds [] old new = new ≡ old
HasWatched {P} adds (b ∷ blocks) old new = (middle : P) × adds old b.count (length b.bytes) middle
    × HasWatched adds blocks middle new

-- ---- damaged documents

abbrev pub is_damaged : Slot → Bool
is_damaged (doc bytes) = false
is_damaged damaged = true

-- the slots of a block of this many documents
abbrev pub slots_in : List ℕ → ℕ → List Slot
slots_in block documents = map (slot block) (range_with_len 0 documents)

-- how many of them are damaged
abbrev pub damaged_count : List ℕ → ℕ → ℕ
damaged_count block documents = count_by is_damaged (slots_in block documents)

-- ---- one block, whose index promises this many documents

-- whether its table has as many documents, lies in the block, and lets the first begin at byte 0
abbrev pub has_table : List ℕ → ℕ → Bool
has_table block documents = nat_le (4 * (documents + 1)) (length block) && (count_of block == documents)
    && ((documents == 0) || (start_of block 0 == 0))

-- whether the block is sound: it has such a table, and none of its documents is damaged
abbrev pub is_sound : List ℕ → ℕ → Bool
is_sound block documents = has_table block documents && not (list_any is_damaged (slots_in block documents))

-- A table has this fault, and none that stands before it here.
abbrev pub HasTableFault : List ℕ → ℕ → TableFault → Type 0
HasTableFault block documents Short = length block < 4
HasTableFault block documents (Count counted promised) = (4 ≤ length block) × (counted ≡ count_of block)
    × (promised ≡ documents) × (counted ≢ promised)
HasTableFault block documents (Large counted) = (4 ≤ length block) × (counted ≡ count_of block) × (counted ≡ documents)
    × (length block < 4 * (documents + 1))
HasTableFault block documents (Start start) = (count_of block ≡ documents) × (4 * (documents + 1) ≤ length block)
    × (0 < documents) × (start ≡ start_of block 0) × (0 < start)

-- A block whose first document has this id has this fault: its table's, or its first damaged document.
abbrev pub HasFault : ℕ → List ℕ → ℕ → Fault → Type 0
HasFault first block documents (Table fault) = HasTableFault block documents fault
HasFault first block documents (DamagedSlot id) = (has_table block documents ≡ true) × ((k : ℕ) × (k < documents)
    × (id ≡ first + k) × (slot block k ≡ damaged) × AreWhole block k)

-- ---- the blocks of a store

abbrev pub is_sound_block : StoreBlock → Bool
is_sound_block b = is_sound b.bytes b.count

-- The first block that is not sound has the fault at this place.
pub record IsFirstFault (bs : List StoreBlock) (place : FaultPlace) : Type 0 where
  pub before : List StoreBlock
  pub broken : StoreBlock
  pub after : List StoreBlock
  pub blocks : bs ≡ before ++ broken ∷ after
  pub sound : list_all is_sound_block before ≡ true
  pub fault : HasFault (docs_in before) broken.bytes broken.count place.fault
  pub number : place.block ≡ length before
  pub byte : place.byte ≡ length (data_of before)

-- What was found in these blocks, all of which were taken.
pub record Judges (bs : List StoreBlock) (verdict : Verdict) : Type 0 where
  pub blocks : verdict.blocks ≡ length bs
  pub damaged_documents : verdict.damaged ≡ count_by is_damaged (slots bs)
  pub broken : verdict.broken_blocks ≡ count_by (λ b. not (is_sound_block b)) bs
  pub sound : is_none verdict.first ≡ list_all is_sound_block bs
  pub first : IfSome verdict.first (IsFirstFault bs)
