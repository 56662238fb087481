-- Which errors the calls of a log in a folder return, and why.
use Rattle.std.specs.Prelude.{◌≡◌, ◌≢◌, ◌⊎◌, ℕ, ◌+◌, ◌≤◌, ◌^◌, List, ◌++◌, length, map, None, IsSome}
use Rattle.std.specs.List.{Any, Contains}
use Rattle.std.specs.declared.io.ErrorKind.TheVariants.{OutOfMemory}
use Rattle.store_base.specs.declared.error.StoreError.{StoreError}
use Rattle.store_base.specs.declared.error.StoreError.TheVariants.{DamagedDocument, TooManyDocs, BlockTooLarge}
use Rattle.std.specs.declared.io.Error.{Error}
use Rattle.std.specs.IoError.{error_kind}
use Rattle.store_folder.specs.Folder.{Look}
use Rattle.store_published.specs.declared.publishing.FillError.{FillError}
use Rattle.store_published.specs.declared.publishing.FillError.TheVariants.{Filling, Folder}
use Rattle.store_format.specs.Block.{Slot, doc}
use Rattle.segmented_log.specs.declared.error.LogError.{LogError}
use Rattle.segmented_log.specs.declared.error.LogError.TheVariants.{Memory, Failed, Unsynced, Full, BatchFull, TooLong, Broken, NoLog, Damaged, DamagedTail, Changed}
use Rattle.store_folder.specs.Publishing.{part}
use Rattle.segmented_log.specs.Names.{segment_name, tail_name}

-- what an error of the system is for a log
abbrev pub IsOfSystem : Error → LogError → Type 0
IsOfSystem error Memory = error_kind error ≡ OutOfMemory
IsOfSystem error (Failed reason) = (error_kind error ≢ OutOfMemory) × (reason ≡ error)
IsOfSystem error _ = ⊥

-- a read or a write failed, or a sync before
abbrev pub IsFailure : LogError → Type 0
IsFailure (Failed reason) = Unit {0}
IsFailure Unsynced = Unit {0}
IsFailure _ = ⊥

-- a fault: no memory, or a read or a write that failed
abbrev pub IsFault : LogError → Type 0
IsFault Memory = Unit {0}
IsFault e = IsFailure e

-- those of an opening
abbrev pub IsOfOpenings : LogError → Type 0
IsOfOpenings Full = Unit {0}
IsOfOpenings NoLog = Unit {0}
IsOfOpenings DamagedTail = Unit {0}
IsOfOpenings e = IsFault e

-- those of an opening to read
abbrev pub IsOfReaders : LogError → Type 0
IsOfReaders Changed = Unit {0}
IsOfReaders e = IsOfOpenings e

-- those of an append
abbrev pub IsOfAppends : LogError → Type 0
IsOfAppends Memory = Unit {0}
IsOfAppends Full = Unit {0}
IsOfAppends BatchFull = Unit {0}
IsOfAppends TooLong = Unit {0}
IsOfAppends Broken = Unit {0}
IsOfAppends _ = ⊥

-- those of a sync or a seal
abbrev pub IsOfSyncs : LogError → Type 0
IsOfSyncs Full = Unit {0}
IsOfSyncs Broken = Unit {0}
IsOfSyncs e = IsFault e

-- those of a call that opens one of the log's files
abbrev pub IsOfFiles : LogError → Type 0
IsOfFiles NoLog = Unit {0}
IsOfFiles e = IsFault e

-- those of a call that reads the tail
abbrev pub IsOfTails : LogError → Type 0
IsOfTails DamagedTail = Unit {0}
IsOfTails e = IsOfFiles e

-- those of a call that publishes a segment
abbrev pub IsOfSeals : LogError → Type 0
IsOfSeals Full = Unit {0}
IsOfSeals e = IsFault e

-- those of a call that joins segments
abbrev pub IsOfJoins : LogError → Type 0
IsOfJoins Full = Unit {0}
IsOfJoins Damaged = Unit {0}
IsOfJoins e = IsFault e

-- those of a read of a segment's record
abbrev pub IsOfReads : LogError → Type 0
IsOfReads Damaged = Unit {0}
IsOfReads e = IsFault e

-- a document of a store is damaged
abbrev pub IsDamaged : StoreError → Type 0
IsDamaged e = (id : ℕ) × (e ≡ DamagedDocument id)

-- A store has no room for these records: they are too many, or the block of one is too large.
abbrev pub HasNoRoom : List (List ℕ) → Type 0
HasNoRoom records = (2 ^ 32 ≤ length records) ⊎ Any (λ bytes. 2 ^ 32 ≤ 16392 + length bytes) records

-- Some of these slots has a record that is too long for the block of a segment.
abbrev pub HasTooLong : List Slot → Type 0
HasTooLong all = (bytes : List ℕ) × Contains all (doc bytes) × (2 ^ 32 ≤ 16392 + length bytes)

-- A store has no room for the last of these slots, which have records.
abbrev pub HasNoRoomForLast : List Slot → Type 0
HasNoRoomForLast all = (before : List Slot) × (records : List (List ℕ)) × (all ≡ before ++ map doc records) × HasNoRoom records

-- A segment was published.
abbrev pub HasNewSegment : Look → Look → Type 0
HasNewSegment old new = (first : ℕ) × (old (segment_name first) ≡ None) × IsSome (new (segment_name first))

-- Each file stays, but the tail, a segment that was not there, and the files beside them.
abbrev pub KeepsOthers : Look → Look → Type 0
KeepsOthers old new = (n : List ℕ) → n ≢ tail_name ++ part → n ≢ tail_name
    → ((first : ℕ) → old (segment_name first) ≡ None → (n ≢ segment_name first ++ part) × (n ≢ segment_name first)) → new n ≡ old n

-- Why a store takes no more of these records: they are too many, or the block of one is too large.
pub record RefusesRecords (block_size : ℕ) (records : List (List ℕ)) (e : StoreError) : Type 0 where
  pub many : e ≡ TooManyDocs → 2 ^ 32 ≤ length records
  pub large : e ≡ BlockTooLarge → Any (λ bytes. 2 ^ 32 ≤ block_size + length bytes + 8) records

-- What ended a filling is of this kind.
abbrev pub IsFillingOf : {E : Type 0} → (E → Type 0) → FillError E → Type 0
IsFillingOf of (Filling e) = of e
IsFillingOf of _ = ⊥

-- It is an error of the folder, and not one for lack of memory.
abbrev pub IsOfFolder : {E : Type 0} → FillError E → Type 0
IsOfFolder (Folder e) = error_kind e ≢ OutOfMemory
IsOfFolder _ = ⊥
