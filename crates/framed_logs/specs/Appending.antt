-- Records that are appended to a log, and acknowledged by their numbers.
use Rattle.std.specs.Prelude.{◌≡◌, ℕ, ◌+◌, false, List, [], ◌++◌, length, map, Option, IfSome, IsTrue}
use Rattle.std.specs.Io.KnownBytes.{Appends}
use Rattle.document_framing.specs.Feeding.{AreFirst}
use Rattle.store_format.specs.Block.{doc}
use Rattle.store_folder.specs.Folder.{Look}
use Rattle.segmented_log.specs.Log.{KeepsOrAdds, LogView}
use Rattle.framed_logs.specs.declared.sync_policy.SyncPolicy.{SyncPolicy}
use Rattle.framed_logs.specs.declared.sync_policy.SyncPolicy.TheVariants.{End}
use Rattle.framed_logs.specs.declared.whole_inputs.AppendError.{AppendError}
use Rattle.framed_logs.specs.declared.whole_inputs.AppendError.TheVariants.{Output}
use Rattle.framed_logs.specs.Printed.{Printed, Prints, AppendsFirst, number_lines}

-- the lines of the numbers that records have after the slots of a log, by their count
abbrev pub lines_after : {F : Type 0} → LogView F → ℕ → List ℕ
lines_after log count = number_lines (log.first + length log.slots) count

-- All records that waited are on the disk, and their numbers are printed.
pub record Syncs {F : Type 0} (old new : LogView F) (printed_before printed : Printed) : Type 0 where
  pub commit : new.commit ≡ old.commit
  pub first : new.first ≡ old.first
  pub slots : new.slots ≡ old.slots ++ map doc old.pending
  pub pending : new.pending ≡ []
  pub worked : old.is_broken ≡ false
  pub works : new.is_broken ≡ false
  pub lines : Prints printed_before printed (lines_after old (length old.pending))

-- These documents came after the records that waited. The first of all these were synced, and their numbers printed; the
-- others wait.
pub record Adds {F : Type 0} (policy : SyncPolicy) (documents : List (List ℕ)) (old new : LogView F) (printed_before printed : Printed) : Type 0 where
  pub synced : List (List ℕ)
  pub split : synced ++ new.pending ≡ old.pending ++ documents
  pub commit : new.commit ≡ old.commit
  pub first : new.first ≡ old.first
  pub slots : new.slots ≡ old.slots ++ map doc synced
  pub works : new.is_broken ≡ old.is_broken
  pub lines : Prints printed_before printed (lines_after old (length synced))
  pub late : policy ≡ End → synced ≡ []

-- A sync failed, and no number was printed. Since then a crash leaves the log with the records that were on the disk, maybe
-- with those that waited, or, with one sync, with forged ones.
pub record FailsSync {F : Type 0} (leaves : F → F → (Look → Type 0) → Type 0) (old new : LogView F) (printed_before printed : Printed) : Type 0 where
  pub broken : IsTrue new.is_broken
  pub same : IsTrue old.is_broken → new ≡ old
  pub left : old.is_broken ≡ false → leaves old.folder new.folder (KeepsOrAdds old.commit old.first old.slots old.pending)
  pub silent : printed ≡ printed_before

-- Since a moment at which these records were on the disk, a crash leaves the log with them, maybe with those that waited then:
-- these, and maybe more. Or, with one sync, it leaves forged ones after them.
pub record LeavesSynced {F : Type 0} (leaves : F → F → (Look → Type 0) → Type 0) (old : LogView F) (synced rest : List (List ℕ)) (folder : F) : Type 0 where
  pub since : F
  pub more : List (List ℕ)
  pub left : leaves since folder (KeepsOrAdds old.commit old.first (old.slots ++ map doc synced) (rest ++ more))

-- The log is as it was, with these records after its slots, and these wait.
pub record HasMore {F : Type 0} (old new : LogView F) (synced rest : List (List ℕ)) : Type 0 where
  pub commit : new.commit ≡ old.commit
  pub first : new.first ≡ old.first
  pub slots : new.slots ≡ old.slots ++ map doc synced
  pub pending : new.pending ≡ rest

-- These documents came after the records that waited, and then a call failed. No number is printed but those of the first
-- of all these, which were synced: the log has them, or, where it is to be opened again, each crash leaves them. With `End`
-- none was synced.
pub record Stops {F : Type 0} (leaves : F → F → (Look → Type 0) → Type 0) (policy : SyncPolicy) (documents : List (List ℕ)) (old new : LogView F)
    (printed_before printed : Printed) : Type 0 where
  pub synced : List (List ℕ)
  pub rest : List (List ℕ)
  pub split : synced ++ rest ≡ old.pending ++ documents
  pub kept : new.is_broken ≡ false → HasMore old new synced rest
  pub left : old.is_broken ≡ false → IsTrue new.is_broken → LeavesSynced leaves old synced rest new.folder
  pub lines : Prints printed_before printed (lines_after old (length synced))
  pub late : policy ≡ End → synced ≡ []

-- The log has the records that waited, and then all documents, those that are known; none waits.
pub record HasAll {F : Type 0} (known : Option (List (List ℕ))) (old new : LogView F) (count : ℕ) : Type 0 where
  pub documents : List (List ℕ)
  pub all : IfSome known (λ known. documents ≡ known)
  pub first : new.first ≡ old.first
  pub slots : new.slots ≡ old.slots ++ map doc (old.pending ++ documents)
  pub pending : new.pending ≡ []
  pub count_is : count ≡ length old.pending + length documents

-- The log has all of them, and their numbers are printed, unless a print failed.
pub record PutsAll {F : Type 0} (known : Option (List (List ℕ))) (old new : LogView F) (printed_before printed : Printed) : Type 0 where
  pub count : ℕ
  pub has : HasAll known old new count
  pub lines : Prints printed_before printed (lines_after old count)

-- The log has all of them, and their numbers are printed, and nothing else.
pub record AppendsAll {F : Type 0} (known : Option (List (List ℕ))) (old new : LogView F) (printed_before printed : Printed) : Type 0 where
  pub count : ℕ
  pub has : HasAll known old new count
  pub lines : Appends printed_before.bytes printed.bytes (lines_after old count)

-- The log has all of them, and not all of their numbers are printed.
pub record PrintsFirst {F : Type 0} (known : Option (List (List ℕ))) (old new : LogView F) (printed_before printed : Printed) : Type 0 where
  pub count : ℕ
  pub has : HasAll known old new count
  pub lines : AppendsFirst printed_before.bytes printed.bytes (lines_after old count)

-- The first of the documents came, and then a call failed.
pub record StopsAfter {F : Type 0} (leaves : F → F → (Look → Type 0) → Type 0) (policy : SyncPolicy) (known : Option (List (List ℕ))) (old new : LogView F)
    (printed_before printed : Printed) : Type 0 where
  pub documents : List (List ℕ)
  pub first : IfSome known (λ known. AreFirst known documents)
  pub stops : Stops leaves policy documents old new printed_before printed

-- What an error leaves: where only the output failed, the log has all records.
abbrev pub EndsAppend : {F : Type 0} → (F → F → (Look → Type 0) → Type 0) → SyncPolicy → Option (List (List ℕ)) → LogView F → LogView F
    → Printed → Printed → AppendError → Type 0
EndsAppend leaves policy known old new printed_before printed (Output error) = PrintsFirst known old new printed_before printed
EndsAppend leaves policy known old new printed_before printed _ = StopsAfter leaves policy known old new printed_before printed
