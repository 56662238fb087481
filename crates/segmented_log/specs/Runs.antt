-- What a list of calls does to a log in a folder.
use Rattle.std.specs.Prelude.{◌≡◌, ◌⊎◌, ℕ, ◌+◌, min, max, List, [], ◌∷◌, ◌++◌, length, map}
use Rattle.std.specs.List.{Contains, flat_map}
use Rattle.store_folder.specs.Folder.{Look}
use Rattle.store_format.specs.Block.{Slot, doc}
use Rattle.segmented_log.specs.declared.commit.Commit.{Commit}
use Rattle.segmented_log.specs.declared.error.LogError.{LogError}
use Rattle.segmented_log.specs.declared.runs.Call.{Call}
use Rattle.segmented_log.specs.declared.runs.Call.TheVariants.{Append, Sync, Seal, Compact, DropBefore}
use Rattle.segmented_log.specs.Causes.{IsOfAppends, IsOfSyncs, IsOfJoins}
use Rattle.segmented_log.specs.Dropping.{IsRest}
use Rattle.segmented_log.specs.Opening.{IsAsBefore}
use Rattle.segmented_log.specs.Log.{IsLog, IsBlank, AddsForged, LogView}

-- the batches that these calls sync, in order, where these records are pending at first: the other calls change no batch
abbrev pub batches_by : List (List ℕ) → List Call → List (List (List ℕ))
batches_by pending [] = []
batches_by pending (Append bytes ∷ calls) = batches_by (pending ++ bytes.items ∷ []) calls
batches_by pending (Sync ∷ calls) = pending ∷ batches_by [] calls
batches_by pending (Seal ∷ calls) = batches_by pending calls
batches_by pending (Compact size ∷ calls) = batches_by pending calls
batches_by pending (DropBefore number ∷ calls) = batches_by pending calls

-- what is pending after them
abbrev pub pending_by : List (List ℕ) → List Call → List (List ℕ)
pending_by pending [] = pending
pending_by pending (Append bytes ∷ calls) = pending_by (pending ++ bytes.items ∷ []) calls
pending_by pending (Sync ∷ calls) = pending_by [] calls
pending_by pending (Seal ∷ calls) = pending_by pending calls
pending_by pending (Compact size ∷ calls) = pending_by pending calls
pending_by pending (DropBefore number ∷ calls) = pending_by pending calls

-- the records of batches, in order
abbrev pub joined : List (List (List ℕ)) → List (List ℕ)
joined batches = flat_map (λ batch. batch) batches

-- the slots of the records of batches, in order
abbrev pub slots_of : List (List (List ℕ)) → List Slot
slots_of batches = map doc (joined batches)

-- the number from which on these calls drop no record: the greatest that one of their drops is given, or for each drop the
-- number after the last record that is synced by then, if that is less. At first that is `next`, and these are pending.
abbrev pub dropped_by : ℕ → List (List ℕ) → List Call → ℕ
dropped_by next pending [] = 0
dropped_by next pending (Append bytes ∷ calls) = dropped_by next (pending ++ bytes.items ∷ []) calls
dropped_by next pending (Sync ∷ calls) = dropped_by (next + length pending) [] calls
dropped_by next pending (Seal ∷ calls) = dropped_by next pending calls
dropped_by next pending (Compact size ∷ calls) = dropped_by next pending calls
dropped_by next pending (DropBefore number ∷ calls) = max (min number next) (dropped_by next pending calls)

-- One of these calls drops records.
abbrev pub Drops : List Call → Type 0
Drops calls = (number : ℕ) × Contains calls (DropBefore number)

-- One of these calls joins segments.
abbrev pub Compacts : List Call → Type 0
Compacts calls = (size : ℕ) × Contains calls (Compact size)

-- These calls make of a log of the slots `kept` one of the slots `rest`: of those slots and then of the records of their
-- batches they leave out some of the first, which their drops may remove.
abbrev pub Makes : List Call → List (List ℕ) → ℕ → List Slot → ℕ → List Slot → Type 0
Makes calls pending first kept new_first rest = IsRest first (kept ++ slots_of (batches_by pending calls)) (dropped_by (first + length kept) pending calls) new_first rest

-- The folder is the log of these slots, and then of forged batches, where the first of these batches was being written with
-- one sync.
pub record EndsInForged (commit : Commit) (first : ℕ) (kept : List Slot) (batches : List (List (List ℕ))) (c : Look) : Type 0 where
  pub batch : List (List ℕ)
  pub others : List (List (List ℕ))
  pub next : batches ≡ batch ∷ others
  pub forged : AddsForged commit first kept batch c

-- The folder is the log that the first of these calls make: no batch is skipped and none is there in part. Where the batch
-- after these was being written with one sync, forged batches may stand in its place.
pub record HasBeginning (commit : Commit) (first : ℕ) (kept : List Slot) (pending : List (List ℕ)) (calls : List Call) (c : Look) : Type 0 where
  pub made : List Call
  pub others : List Call
  pub all : calls ≡ made ++ others
  pub new_first : ℕ
  pub rest : List Slot
  pub makes : Makes made pending first kept new_first rest
  pub log : IsLog new_first rest c ⊎ EndsInForged commit new_first rest (batches_by (pending_by pending made) others) c

-- Whatever log the first folder is, the second is what the first of these calls make of it. Where the first one is blank,
-- the second is so, or is what they make of a log without slots, whose first number is 0.
pub record KeepsAndAdds (commit : Commit) (calls : List Call) (old new : Look) : Type 0 where
  pub same : (first : ℕ) (kept : List Slot) → IsLog first kept old → HasBeginning commit first kept [] calls new
  pub begun : IsBlank old → IsBlank new ⊎ HasBeginning commit 0 [] [] calls new

-- What a crash leaves while a log is opened and called: what it could leave of the log before, or what the first of the
-- calls make of the log that a look sees.
abbrev pub IsOldOrCalled : Commit → List Call → (Look → Type 0) → Look → Look → Type 0
IsOldOrCalled commit calls before seen c = IsAsBefore before c ⊎ KeepsAndAdds commit calls seen c

-- The first of these calls were made, and no other: the log has what they make of it.
pub record HasMadeFirst {F : Type 0} (calls : List Call) (old new : LogView F) : Type 0 where
  pub made : List Call
  pub others : List Call
  pub all : calls ≡ made ++ others
  pub makes : Makes made old.pending old.first old.slots new.first new.slots
  pub pending : new.pending ≡ pending_by old.pending made

-- the errors of these calls
abbrev pub IsOfCalls : List Call → LogError → Type 0
IsOfCalls calls e = IsOfAppends e ⊎ (IsOfSyncs e ⊎ (Compacts calls × IsOfJoins e))
