-- What calls of a system make of an empty folder. The changes are the last of them first.
use Rattle.std.specs.Prelude.{◌≡◌, ◌≢◌, ℕ, List, [], ◌∷◌, length, None, IsSome}
use Rattle.store_files.specs.Disk.{Change, Created, Appended, Cut, FileSynced, SyncFailed, Moved, Removed, FolderSynced, Disk, replay}

-- a folder in which nothing was made yet
abbrev pub empty : Disk
empty = record {
  file_of = λ _. None;
  next = 0;
  bytes = λ _. [];
  holds = λ _ _. ⊥;
  trusted = λ _. Unit {0};
  kept = λ _. Unit {0};
  leaves = λ c. (n : List ℕ) → c n ≡ None;
  moment = 0;
  left_since = λ t c. (n : List ℕ) → c n ≡ None;
}

-- The last change wrote to the file, which had this length before.
abbrev pub IsUndone : ℕ → ℕ → List Change → Type 0
IsUndone f len [] = ⊥
IsUndone f len (Created name ∷ earlier) = ⊥
IsUndone f len (Appended g more ∷ earlier) = (g ≡ f) × (len ≡ length ((replay earlier empty).bytes f))
IsUndone f len (Cut g other ∷ earlier) = ⊥
IsUndone f len (FileSynced g ∷ earlier) = ⊥
IsUndone f len (SyncFailed g bytes ∷ earlier) = ⊥
IsUndone f len (Moved from to ∷ earlier) = ⊥
IsUndone f len (Removed name ∷ earlier) = ⊥
IsUndone f len (FolderSynced ∷ earlier) = ⊥

-- Changes that calls can make: a file that is moved is there, and takes another name; what is cut off was written last; and
-- after a sync that failed the file is read as before.
abbrev pub AreMade : List Change → Type 0
AreMade [] = Unit {0}
AreMade (Created name ∷ earlier) = AreMade earlier
AreMade (Appended f more ∷ earlier) = AreMade earlier
AreMade (Cut f len ∷ earlier) = IsUndone f len earlier × AreMade earlier
AreMade (FileSynced f ∷ earlier) = AreMade earlier
AreMade (SyncFailed f bytes ∷ earlier) = (bytes ≡ (replay earlier empty).bytes f) × AreMade earlier
AreMade (Moved from to ∷ earlier) = IsSome ((replay earlier empty).file_of from) × (from ≢ to) × AreMade earlier
AreMade (Removed name ∷ earlier) = AreMade earlier
AreMade (FolderSynced ∷ earlier) = AreMade earlier
