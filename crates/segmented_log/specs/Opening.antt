-- What a log finds as it is opened.
use Rattle.std.specs.Prelude.{◌≡◌, ◌≢◌, ◌⊎◌, ℕ, ◌≤◌, ◌<◌, ◌^◌, Bool, true, false, List, [], ◌++◌, Option, Some, None, IsSome}
use Rattle.std.specs.List.{Contains}
use Rattle.store_base.specs.Counts.{HasRisen}
use Rattle.store_folder.specs.Folder.{Look, Elsewhere, ElsewhereOfBoth, Keeps}
use Rattle.store_folder.specs.Publishing.{part}
use Rattle.store_format.specs.Block.{Slot}
use Rattle.log_tail.specs.Tail.{records_of, first_of, IsTail}
use Rattle.log_tail.specs.Heads.{is_damaged, rest_of}
use Rattle.segmented_log.specs.Names.{segment_name, tail_name}
use Rattle.segmented_log.specs.Parts.{tail_end}
use Rattle.segmented_log.specs.Log.{HasSegment, IsLog, IsBlank, KeepsLog}

-- The name of a log's file: of its tail, or of a segment.
abbrev pub IsOfLog : List ℕ → Type 0
IsOfLog n = (n ≡ tail_name) ⊎ ((k : ℕ) × (k < 2 ^ 64) × (n ≡ segment_name k))

-- What a look sees of the log's files is what is on the disk of them, but for the bytes of a tail.
pub record IsSyncedButTail (seen : Look) (may_leave : Look → Type 0) : Type 0 where
  pub segments : (c : Look) → may_leave c → (k : ℕ) → k < 2 ^ 64 → c (segment_name k) ≡ seen (segment_name k)
  pub no_tail : seen tail_name ≡ None → Keeps tail_name None may_leave

-- What could be left before, but for files that are no log's.
abbrev pub IsAsBefore : (Look → Type 0) → Look → Type 0
IsAsBefore before c = (d : Look) × before d × ((n : List ℕ) → IsOfLog n → c n ≡ d n)

-- What a crash leaves while a log is opened: what it could leave of the log before, or the log that a look sees.
abbrev pub IsOldOrSeen : (Look → Type 0) → Look → Look → Type 0
IsOldOrSeen before seen c = IsAsBefore before c ⊎ KeepsLog seen c

-- The numbers of the segments among these names: each of them, and no others.
pub record AreNumbersIn (names : List (List ℕ)) (numbers : List ℕ) : Type 0 where
  pub each : (k : ℕ) → k < 2 ^ 64 → Contains names (segment_name k) → Contains numbers k
  pub only : (k : ℕ) → Contains numbers k → Contains names (segment_name k)
  pub fits : (k : ℕ) → Contains numbers k → k < 2 ^ 64

-- The folder is not a log, nor could one begin in it.
pub record IsNoLog (c : Look) : Type 0 where
  pub not_log : (first : ℕ) (all : List Slot) → IsLog first all c → ⊥
  pub not_blank : IsBlank c → ⊥

-- The numbers of the tail's records pass the greatest u64.
abbrev pub HasFullTail : Look → Type 0
HasFullTail c = (tail : List ℕ) × (c tail_name ≡ Some tail) × (2 ^ 64 ≤ tail_end tail)

-- The folder has a file of a segment.
abbrev pub HasSegments : Look → Type 0
HasSegments c = (first : ℕ) × IsSome (c (segment_name first))

-- Of this number the folder has no segment that is a store.
pub record IsNoSegment (c : Look) (first : ℕ) : Type 0 where
  pub fits : first < 2 ^ 64
  pub no_store : (all : List Slot) → HasSegment c (record { first = first; slots = all }) → ⊥

-- Each file stays but the tail and the file beside it; or a sync of one of the log's files failed, and each other file stays.
abbrev pub KeepsButFailed : ℕ → ℕ → Look → Look → Type 0
KeepsButFailed before now old new = ElsewhereOfBoth (tail_name ++ part) tail_name old new ⊎ (HasRisen before now × ((name : List ℕ) × IsOfLog name × Elsewhere name old new))

-- These bytes of a tail are damaged: some have changed that were written whole, or some are no whole batch.
abbrev pub HasDamage : List ℕ → Type 0
HasDamage tail = (is_damaged tail ≡ true) ⊎ (rest_of tail ≢ [])

-- The folder's tail is damaged.
abbrev pub HasDamagedTail : Look → Type 0
HasDamagedTail c = (tail : List ℕ) × (c tail_name ≡ Some tail) × HasDamage tail

-- A sync of the folder's tail can be asked for: it is not damaged, nor torn, or it is on the disk already. A sync of a torn one
-- would make its end look like damage.
abbrev pub CanSyncTail : Look → (List ℕ → List ℕ → Type 0) → Type 0
CanSyncTail seen may_hold = (HasDamagedTail seen → ⊥) ⊎ ((bytes : List ℕ) → may_hold tail_name bytes → seen tail_name ≡ Some bytes)

-- No bytes of the folder's tail have changed that were written whole: no batch follows the first one that is not whole, so
-- only one that was never acknowledged is cut off, and the tail has the first number that its first head names.
abbrev pub HasSoundTail : Look → Type 0
HasSoundTail c = (tail : List ℕ) → c tail_name ≡ Some tail → is_damaged tail ≡ false

-- This file is no tail; or there is none, where the folder is not blank.
abbrev pub IsNoTail : Bool → Option (List ℕ) → Type 0
IsNoTail is_blank (Some bytes) = IsTail bytes → ⊥
IsNoTail is_blank None = is_blank ≡ false

-- The tail has the records of the file that was there, or none where there was none.
abbrev pub IsTailOf : Option (List ℕ) → List ℕ → Type 0
IsTailOf (Some bytes) tail = IsTail bytes × (first_of tail ≡ first_of bytes) × (records_of tail ≡ records_of bytes)
IsTailOf None tail = (first_of tail ≡ 0) × (records_of tail ≡ [])
