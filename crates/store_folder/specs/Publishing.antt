-- What a crash leaves while a file is published.
use Rattle.std.specs.Prelude.{◌≡◌, ◌⊎◌, ◌<◌, ℕ, List, ◌++◌, length, Option, Some, codes}
use Rattle.store_base.specs.Outputs.{Termination, IsTerminated}
use Rattle.store_folder.specs.Moments.{LeavesOnly}
use Rattle.store_folder.specs.Folder.{Look, Elsewhere, ElsewhereOfBoth, Keeps}

-- what the name of the file beside has after the name: `.part`
abbrev pub part : List ℕ
part = codes ".part"

-- Some outcome of before, but for what is under the name beside.
abbrev pub IsUntouched : (Look → Type 0) → List ℕ → Look → Type 0
IsUntouched before beside c = (d : Look) × before d × Elsewhere beside d c

-- Under the name there is what a crash might have left there before, or the whole file. No other name but the one beside
-- is touched.
pub record IsOldOrWhole (before : Look → Type 0) (beside name : List ℕ) (whole : Option (List ℕ)) (c : Look) : Type 0 where
  pub old : Look
  pub was : before old
  pub at_name : (c name ≡ old name) ⊎ (c name ≡ whole)
  pub elsewhere : ElsewhereOfBoth beside name old c

-- an output that is published in a folder: what was written, its ends, how often a call failed, the names of its file,
-- and the folder, as it was at first and as it is now
pub record Published (F : Type 0) : Type 0 where
  pub content : List ℕ
  pub termination : Termination
  pub failures : ℕ
  pub beside : List ℕ
  pub name : List ℕ
  pub first : F
  pub folder : F

-- It is the same output still, for the same file.
pub record IsSameOutput {F : Type 0} (old new : Published F) : Type 0 where
  pub first : new.first ≡ old.first
  pub beside : new.beside ≡ old.beside
  pub name : new.name ≡ old.name

-- All that was written is in the file beside, but for an end of fewer bytes than 64 KiB.
abbrev pub HasPassedOn : {F : Type 0} → (F → Look) → Published F → Type 0
HasPassedOn seen p = (sent : List ℕ) × (waiting : List ℕ) × (seen p.folder p.beside ≡ Some sent) × (p.content ≡ sent ++ waiting) × (length waiting < 65536)

-- What holds of each output. A crash at any moment since it began leaves under the name what was there, or the whole
-- content; before the first `terminate`, what was there. After its end each crash leaves the whole content.
pub record IsSafe {F : Type 0} (may_leave : F → Look → Type 0) (moment : F → ℕ) (left_since : F → ℕ → Look → Type 0) (p : Published F) : Type 0 where
  pub any_moment : LeavesOnly moment left_since p.first p.folder (IsOldOrWhole (may_leave p.first) p.beside p.name (Some p.content))
  pub not_ended : p.termination.calls ≡ 0 → LeavesOnly moment left_since p.first p.folder (IsUntouched (may_leave p.first) p.beside)
  pub ended : IsTerminated p.content p.termination → Keeps p.name (Some p.content) (may_leave p.folder)
