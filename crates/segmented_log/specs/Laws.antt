-- What holds of every log in a folder, whatever is called.
use Rattle.std.specs.Prelude.{◌≡◌, ◌⊎◌, ℕ, ◌+◌, max, List, [], ◌∷◌, ◌++◌, length, map}
use Rattle.store_folder.specs.Folder.{Look}
use Rattle.store_folder.specs.Moments.{LeavesOnly}
use Rattle.store_format.specs.Block.{Slot, doc}
use Rattle.segmented_log.specs.declared.commit.Commit.{Commit}
use Rattle.segmented_log.specs.declared.commit.Commit.TheVariants.{TwoSyncs}
use Rattle.segmented_log.specs.declared.runs.Call.{Call}
use Rattle.log_tail.specs.Tail.{records_from}
use Rattle.segmented_log.specs.Log.{IsLog, IsBlank, IsForged}
use Rattle.segmented_log.specs.Dropping.{DropsTo}
use Rattle.segmented_log.specs.Opening.{IsAsBefore}
use Rattle.segmented_log.specs.Runs.{joined, batches_by, pending_by, slots_of, dropped_by, Drops, Makes, HasBeginning, IsOldOrCalled}

-- A folder is one log at most: it has one first number and one list of slots.
abbrev pub FoldersAreOneLog : Type 0
FoldersAreOneLog = (c : Look) (first other : ℕ) (all slots : List Slot)
    → IsLog first all c → IsLog other slots c → (first ≡ other) × (all ≡ slots)

-- A blank folder is no log.
abbrev pub BlankFoldersAreNoLog : Type 0
BlankFoldersAreNoLog = (c : Look) (first : ℕ) (all : List Slot) → IsBlank c → IsLog first all c → ⊥

-- Calls that drop nothing leave every slot, under its number.
abbrev pub OnlyDropsRemove : Type 0
OnlyDropsRemove = (calls : List Call) (pending : List (List ℕ)) (first : ℕ) (kept : List Slot) (new_first : ℕ) (rest : List Slot)
    → (Drops calls → ⊥) → Makes calls pending first kept new_first rest
    → (new_first ≡ first) × (rest ≡ kept ++ slots_of (batches_by pending calls))

-- a process, from its opening of a log to its end: how it commits, the calls that returned Ok, and those that it was to make
-- next
pub record Process : Type 0 where
  pub commit : Commit
  pub made : List Call
  pub others : List Call

-- The folder is what a process leaves of a log of these slots: what the calls that returned Ok make of it, and then what the
-- first of the others do.
pub record IsLeftOf (process : Process) (first : ℕ) (kept : List Slot) (c : Look) : Type 0 where
  pub number : ℕ
  pub slots : List Slot
  pub makes : Makes process.made [] first kept number slots
  pub beginning : HasBeginning process.commit number slots (pending_by [] process.made) process.others c

-- What a process leaves of the folder that it saw as it opened it, whatever log that was. A blank folder is so, if no call
-- returned Ok, or it is what the process leaves of a log without slots, whose first number is 0.
pub record IsLeftBy (process : Process) (old new : Look) : Type 0 where
  pub same : (first : ℕ) (kept : List Slot) → IsLog first kept old → IsLeftOf process first kept new
  pub begun : IsBlank old → (IsBlank new × (process.made ≡ [])) ⊎ IsLeftOf process 0 [] new

-- A log that was opened in this folder has this first number and these slots: what these calls make of the log that the
-- opening found.
pub record IsFoundWith (made : List Call) (old : Look) (number : ℕ) (slots : List Slot) : Type 0 where
  pub same : (first : ℕ) (kept : List Slot) → IsLog first kept old → Makes made [] first kept number slots
  pub begun : IsBlank old → Makes made [] 0 [] number slots

-- What a crash leaves of a process: what a crash could leave of the log before it, if no call returned Ok; or what it leaves
-- of the folder that it saw.
abbrev pub MayBeLeft : Process → (Look → Type 0) → Look → Look → Type 0
MayBeLeft process before seen c = (IsAsBefore before c × (process.made ≡ [])) ⊎ IsLeftBy process seen c

-- The process has ended, alone or by a crash of the machine: whatever a crash leaves now is left of it. A look sees what a
-- crash may leave.
abbrev pub IsEndOf : Process → (Look → Type 0) → Look → (Look → Type 0) → Type 0
IsEndOf process before seen after = (c : Look) → after c → MayBeLeft process before seen c

-- What a crash leaves while a log is opened and called is left of such a process; no call has returned Ok yet.
abbrev pub OpeningsAreOfProcesses : {F : Type 0} → (F → Look) → (F → Look → Type 0) → Type 0
OpeningsAreOfProcesses {F = F} seen may_leave = (commit : Commit) (calls : List Call) (old : F) (c : Look)
    → IsOldOrCalled commit calls (may_leave old) (seen old) c → MayBeLeft (record { commit = commit; made = []; others = calls }) (may_leave old) (seen old) c

-- So is what a crash leaves while further calls are made to the log that was opened.
abbrev pub CallsAreOfProcesses : {F : Type 0} → (F → Look) → (F → Look → Type 0) → Type 0
CallsAreOfProcesses {F = F} seen may_leave = (commit : Commit) (made others : List Call) (old : F) (c : Look) (number : ℕ) (slots : List Slot)
    → IsFoundWith made (seen old) number slots → HasBeginning commit number slots (pending_by [] made) others c
    → MayBeLeft (record { commit = commit; made = made; others = others }) (may_leave old) (seen old) c

-- A process may end at each moment of its calls: the folder that it leaves is then as it was at that moment.
abbrev pub EachMomentMayBeTheEnd : {F : Type 0} → (F → Look) → (F → Look → Type 0) → (F → ℕ) → (F → ℕ → Look → Type 0) → Type 0
EachMomentMayBeTheEnd {F = F} seen may_leave moment left_since = (process : Process) (old from now end : F)
    → LeavesOnly moment left_since from now (MayBeLeft process (may_leave old) (seen old))
    → ((c : Look) → may_leave end c → left_since now (moment from) c) → IsEndOf process (may_leave old) (seen old) (may_leave end)

-- So is a restart of the machine after a crash: then there is one folder alone that a crash leaves.
abbrev pub RestartsAreEnds : {F : Type 0} → (F → Look) → (F → Look → Type 0) → Type 0
RestartsAreEnds {F = F} seen may_leave = (process : Process) (old end : F) (c : Look)
    → MayBeLeft process (may_leave old) (seen old) c → ((d : Look) → may_leave end d → d ≡ c) → IsEndOf process (may_leave old) (seen old) (may_leave end)

-- What processes leave, one after another: each opens the folder that the one before it left, as a look sees it.
abbrev pub IsLeftByAll : {F : Type 0} → (F → Look) → (F → Look → Type 0) → List Process → F → F → Type 0
IsLeftByAll seen may_leave [] old new = new ≡ old
IsLeftByAll {F = F} seen may_leave (process ∷ later) old new = (left : F) × IsEndOf process (may_leave old) (seen old) (may_leave left) × IsLeftByAll seen may_leave later left new

-- None, or the records of forged batches, where the first of these batches was being written.
abbrev pub AreForged : List (List (List ℕ)) → List (List ℕ) → Type 0
AreForged [] forged = forged ≡ []
AreForged (batch ∷ _) forged = (forged ≡ []) ⊎ ((bytes : List ℕ) × IsForged batch bytes × (forged ≡ records_from bytes))

-- The records of a process whose sync had not returned can be these: those of the first batches of its next calls, and then
-- maybe those of forged ones in the place of the next batch, but none if it commits with two syncs.
pub record MayFollow (process : Process) (more : List (List ℕ)) : Type 0 where
  pub written : List (List (List ℕ))
  pub others : List (List (List ℕ))
  pub all : batches_by (pending_by [] process.made) process.others ≡ written ++ others
  pub forged : List (List ℕ)
  pub more_is : more ≡ joined written ++ forged
  pub are_forged : AreForged others forged
  pub none : process.commit ≡ TwoSyncs → forged ≡ []

-- the slots of a process: its acknowledged records, and then these, whose sync had not returned
abbrev pub slots_by : Process → List (List ℕ) → List Slot
slots_by process more = slots_of (batches_by [] process.made) ++ map doc more

-- the number from which on a process drops no record, if it finds a log that ends before `next`
abbrev pub dropped_in : ℕ → Process → ℕ
dropped_in next process = dropped_by next [] (process.made ++ process.others)

-- The slots `all` are the ones that were kept, and then those of each process, in order: the acknowledged records, and maybe
-- some whose sync had not returned. From `number` on no process drops one.
abbrev pub HaveAllOf : ℕ → List Process → List Slot → ℕ → List Slot → Type 0
HaveAllOf first [] kept number all = (number ≡ 0) × (all ≡ kept)
HaveAllOf first (process ∷ later) kept number all = (more : List (List ℕ)) × (n : ℕ) × MayFollow process more
    × (number ≡ max (dropped_in (first + length kept) process) n) × HaveAllOf first later (kept ++ slots_by process more) n all

-- Over any number of processes, each of which ended alone or by a crash, a log keeps its slots and all acknowledged records,
-- in order, under their numbers, but those that were dropped: a crash leaves them, and so a look sees them.
abbrev pub EndsLoseNothing : {F : Type 0} → (F → Look) → (F → Look → Type 0) → Type 0
EndsLoseNothing {F = F} seen may_leave = (processes : List Process) (old new : F) (first : ℕ) (kept : List Slot)
    → ((d : Look) → may_leave old d → IsLog first kept d) → IsLeftByAll seen may_leave processes old new → (c : Look) → may_leave new c
    → (number : ℕ) × (all : List Slot) × HaveAllOf first processes kept number all × DropsTo first all number c

-- So it does from a blank folder on. It is blank in the end only if nothing was acknowledged.
abbrev pub EndsLoseNothingOfNewLogs : {F : Type 0} → (F → Look) → (F → Look → Type 0) → Type 0
EndsLoseNothingOfNewLogs {F = F} seen may_leave = (processes : List Process) (old new : F)
    → ((d : Look) → may_leave old d → IsBlank d) → IsLeftByAll seen may_leave processes old new → (c : Look) → may_leave new c
    → (number : ℕ) × (all : List Slot) × HaveAllOf 0 processes [] number all × (DropsTo 0 all number c ⊎ (IsBlank c × (all ≡ [])))
