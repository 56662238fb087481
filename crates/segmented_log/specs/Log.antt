-- What a folder is as a log, and what a crash may leave of one.
use Rattle.std.specs.Prelude.{◌≡◌, ◌≢◌, ◌⊎◌, ℕ, ◌<◌, ◌≤◌, ◌^◌, ◌+◌, ◌-◌, length, Bool, nat_le, if◌then◌else◌, List, [], ◌++◌, Option, Some, None, Result, Ok, Err, Vec, slice_get, map}
use Rattle.std.specs.List.{AllByRecursion, Contains}
use Rattle.store_folder.specs.Folder.{Look}
use Rattle.std.specs.declared.alloc.Global.{Global}
use Rattle.store_format.specs.Block.{Slot, doc, damaged}
use Rattle.store_format.specs.Slots.{slots}
use Rattle.store_format.specs.StoreFile.{StoreBlock, IsStore}
use Rattle.log_tail.specs.Tail.{body_of, records_from}
use Rattle.segmented_log.specs.declared.commit.Commit.{Commit}
use Rattle.segmented_log.specs.declared.commit.Commit.TheVariants.{OneSync}
use Rattle.segmented_log.specs.declared.error.LogError.{LogError}
use Rattle.segmented_log.specs.declared.error.LogError.TheVariants.{Damaged}
use Rattle.segmented_log.specs.Names.{segment_name, tail_name}
use Rattle.segmented_log.specs.Parts.{Part, Sealed, log_slots, AreParts}

-- These bytes are the file of a store of these slots.
pub record IsStoreWith (all : List Slot) (content : List ℕ) : Type 0 where
  pub period : ℕ
  pub version : ℕ
  pub blocks : List StoreBlock
  pub store : IsStore period content version blocks
  pub slots_are : slots blocks ≡ all

-- The folder has the segment, as a store under its name.
abbrev pub HasSegment : Look → Part → Type 0
HasSegment c part = (content : List ℕ) × IsStoreWith part.slots content × (c (segment_name part.first) ≡ Some content)

-- The folder has these segments and no others, and this tail. Files of other names don't count.
pub record Holds (segments : List Part) (tail : List ℕ) (c : Look) : Type 0 where
  pub each : AllByRecursion (HasSegment c) segments
  pub no_others : (first : ℕ) → first < 2 ^ 64 → (c (segment_name first) ≡ None) ⊎ Contains (map (λ part. part.first) segments) first
  pub tail_is : c tail_name ≡ Some tail

-- The folder is a log of these slots, the first of which has this number.
pub record IsLog (first : ℕ) (all : List Slot) (c : Look) : Type 0 where
  pub segments : List Part
  pub tail : List ℕ
  pub parts : AreParts first segments tail
  pub slots_are : all ≡ log_slots first segments tail
  pub holds : Holds segments tail c

-- The folder has no file of a log.
pub record IsBlank (c : Look) : Type 0 where
  pub no_segments : (first : ℕ) → first < 2 ^ 64 → c (segment_name first) ≡ None
  pub no_tail : c tail_name ≡ None

-- Whatever log the first folder is, the second is the same one; and where it is blank, the second is so or is a new log.
pub record KeepsLog (old new : Look) : Type 0 where
  pub same : (first : ℕ) (all : List Slot) → IsLog first all old → IsLog first all new
  pub begun : IsBlank old → IsBlank new ⊎ IsLog 0 [] new

-- how many bytes a batch of these records takes in a tail, with its head
abbrev pub batch_length : List (List ℕ) → ℕ
batch_length records = 50 + length (body_of records)

-- Where a batch of these records was being written, a crash left batches whose sums fit, which have other records, and take
-- no more bytes than that batch.
pub record IsForged (added : List (List ℕ)) (bytes : List ℕ) : Type 0 where
  pub some : records_from bytes ≢ []
  pub other : records_from bytes ≢ added
  pub short : length bytes ≤ batch_length added

-- The folder is the log of these slots, and then of the records of forged batches, where one batch of these records was
-- being written with one sync.
pub record AddsForged (commit : Commit) (first : ℕ) (all : List Slot) (added : List (List ℕ)) (c : Look) : Type 0 where
  pub one_sync : commit ≡ OneSync
  pub bytes : List ℕ
  pub forged : IsForged added bytes
  pub log : IsLog first (all ++ map doc (records_from bytes)) c

-- The folder is the log of these slots, maybe with all of these records after them; or, with one sync a batch, with forged
-- batches.
abbrev pub KeepsOrAdds : Commit → ℕ → List Slot → List (List ℕ) → Look → Type 0
KeepsOrAdds commit first all added c = IsLog first all c ⊎ (IsLog first (all ++ map doc added) c ⊎ AddsForged commit first all added c)

-- the slot of this number, in a log the first of whose slots has that number
abbrev pub slot_at : ℕ → List Slot → ℕ → Option Slot
slot_at first all number = if nat_le first number then slice_get all (number - first) else None

-- What a read of a slot returns: the record that is there, or none where there is no slot; `Damaged` for a damaged one.
abbrev pub Gives : Option Slot → Result (Option (Vec ℕ Global)) LogError → Type 0
Gives slot (Ok (Some bytes)) = slot ≡ Some (doc bytes.items)
Gives slot (Ok None) = slot ≡ None
Gives slot (Err Damaged) = slot ≡ Some damaged
Gives slot (Err _) = Unit {0}

-- What an iteration that stands at a number gives, and where it stands then: the record of the number, or why it could
-- not be read; and none where no slot has the number.
abbrev pub GivesNext : ℕ → List Slot → ℕ → Option (Result (Vec ℕ Global) LogError) → ℕ → Type 0
GivesNext first all number None next = slot_at first all number ≡ None
GivesNext first all number (Some (Ok bytes)) next = (slot_at first all number ≡ Some (doc bytes.items)) × (next ≡ number + 1)
GivesNext first all number (Some (Err e)) next = Gives (slot_at first all number) (Err e) × (number < first + length all) × (next ≡ number + 1)

-- what callers see of a log
pub record LogView (F : Type 0) : Type 0 where
  pub folder : F
  -- the number of its first slot, and its slots that are on the disk
  pub first : ℕ
  pub slots : List Slot
  -- its segments
  pub segments : List Sealed
  -- how often reads of their files failed
  pub read_failures : ℕ
  -- how a sync puts records on the disk, and the length in bytes past which it seals the tail
  pub commit : Commit
  pub seal_size : ℕ
  -- the length of the tail in bytes, and how many of its records no segment has
  pub tail_bytes : ℕ
  pub unsealed : ℕ
  -- the records that wait for a sync, and how many bytes they take in their batch
  pub pending : List (List ℕ)
  pub batch_bytes : ℕ
  -- whether a call on the folder failed
  pub is_broken : Bool

-- The log is as it was, but for its count of failed reads, which may be higher.
pub record IsOnlyRead {F : Type 0} (old new : LogView F) : Type 0 where
  pub same : new ≡ record old { read_failures = new.read_failures }
  pub count : old.read_failures ≤ new.read_failures
