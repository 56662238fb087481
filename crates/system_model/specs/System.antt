-- A system in memory that has the files of one folder.
use Rattle.std.specs.Prelude.{◌≡◌, ℕ, ◌&&◌, not, Bool, true, false, List, [], ◌∷◌, Option, None, is_some, map, reverse, if◌then◌else◌, nat_eq, string_bytes, String}
use Rattle.std.specs.declared.alloc.Global.{Global}
use lib.Pointwise.{pointwise}
use Rattle.store_files.specs.Disk.{Change, Created, Appended, Cut, FileSynced, SyncFailed, Moved, Removed, FolderSynced, Disk, replay, seen}
use Rattle.store_folder.specs.Changes.{look_of}
use Rattle.store_files.specs.Known.{AreSo}
use Rattle.store_files.specs.Mark.{claims_of}
use Rattle.store_files.specs.declared.mark.Mark.{Mark}
use Rattle.system_model.specs.Made.{empty}
use Rattle.system_model.specs.declared.content.NamedFile.{NamedFile}
use Rattle.system_model.specs.declared.content.Content.{Content}
use Rattle.system_model.specs.declared.content.Step.{Step}
use Rattle.system_model.specs.declared.content.Step.TheVariants as step

-- the path of its folder, the changes that were made in it, which other folders were synced, and its mark; of changes and
-- syncs the last is the first
pub record MemDisk : Type 0 where
  pub folder : List ℕ
  pub changes : List Change
  pub others : List (List ℕ)
  pub mark : Mark

-- whether this change can be made next
abbrev pub can_be_made : Change → Disk → Bool
can_be_made (Created name) d = true
can_be_made (Appended f more) d = true
can_be_made (Cut f len) d = false
can_be_made (FileSynced f) d = true
can_be_made (SyncFailed f bytes) d = false
can_be_made (Moved from to) d = is_some (d.file_of from) && not (pointwise nat_eq from to)
can_be_made (Removed name) d = true
can_be_made FolderSynced d = true

abbrev pub are_made : List Change → Bool
are_made [] = true
are_made (change ∷ earlier) = can_be_made change (replay earlier empty) && are_made earlier

-- the syncs of another folder
abbrev pub syncs_of : List (List ℕ) → List ℕ → List Change
syncs_of [] d = []
syncs_of (path ∷ paths) d = if pointwise nat_eq path d then FolderSynced ∷ syncs_of paths d else syncs_of paths d

-- the changes that were made in the folder of a path
abbrev pub changes_in : MemDisk → List ℕ → List Change
changes_in s d = if pointwise nat_eq s.folder d then (if are_made s.changes then s.changes else []) else syncs_of s.others d

abbrev pub change_of : Step → Change
change_of (step.Created name) = Created (string_bytes name)
change_of (step.Appended f bytes) = Appended f bytes.items
change_of (step.FileSynced f) = FileSynced f
change_of (step.Moved from to) = Moved (string_bytes from) (string_bytes to)
change_of (step.Removed name) = Removed (string_bytes name)
change_of step.FolderSynced = FolderSynced

abbrev pub made_by : List Step → List Change
made_by steps = reverse (map change_of steps)

abbrev pub synced_by : List (String Global) → List (List ℕ)
synced_by paths = reverse (map string_bytes paths)

-- What the mark of a system claims is so of the folder of a path.
abbrev pub WasSo : MemDisk → List ℕ → Type 0
WasSo s d = AreSo (claims_of s.mark) (replay (changes_in s d) empty)

-- the number of the file of a name, of which the last entry counts
abbrev pub number_in : List NamedFile → List ℕ → Option ℕ → Option ℕ
number_in [] n found = found
number_in (entry ∷ entries) n found = number_in entries n (if pointwise nat_eq (string_bytes entry.name) n then entry.number else found)

-- The content of a system is that of this folder.
pub record Holds (c : Content) (d : Disk) : Type 0 where
  pub names : (n : List ℕ) → number_in c.names.items n None ≡ d.file_of n
  pub looks : (n : List ℕ) → look_of c.files.changes.items n ≡ seen d n
  pub next : c.next ≡ d.next
