-- A folder of the system: which file has which name, what a crash may leave of it, and what each change does to that. A
-- file is a number, which it keeps under whatever name. A list of changes has the last of them first.
use Rattle.std.specs.Prelude.{◌≡◌, ◌≢◌, ◌⊎◌, ℕ, ◌≤◌, ◌<◌, ◌+◌, Bool, true, false, List, [], ◌∷◌, ◌++◌, length, take, Option, Some, None, IsTrue, unwrap_or}
use Rattle.std.specs.Prelude.{if◌then◌else◌, nat_eq, option_map}
use lib.Pointwise.{pointwise}
use Rattle.store_folder.specs.Folder.{Look, Elsewhere, Renamed, LosesFile, LeadsTo}

pub data Change : Type 0 where
  -- a file is made under the name, or the one that has it is emptied
  Created : List ℕ → Change
  -- bytes are written at the end of a file
  Appended : ℕ → List ℕ → Change
  -- what was written last to a file is cut off again, down to this length
  Cut : ℕ → ℕ → Change
  FileSynced : ℕ → Change
  -- a sync of the file failed, after which it is read as these bytes
  SyncFailed : ℕ → List ℕ → Change
  -- from the first name to the second
  Moved : List ℕ → List ℕ → Change
  Removed : List ℕ → Change
  FolderSynced : Change

pub record Disk : Type 1 where
  -- the file that has a name
  pub file_of : List ℕ → Option ℕ
  -- a number that no file has yet, nor one after it
  pub next : ℕ
  -- what is read of a file
  pub bytes : ℕ → List ℕ
  -- which bytes a crash may leave in a file
  pub holds : ℕ → List ℕ → Type 0
  -- whether no sync of a file has failed since it was made, or emptied
  pub trusted : ℕ → Type 0
  -- whether the entry of a name is on the disk
  pub kept : List ℕ → Type 0
  -- which files a crash may leave under which names
  pub leaves : Look → Type 0
  -- how many changes were made, and what a crash since one of them could have left
  pub moment : ℕ
  pub left_since : ℕ → Look → Type 0

-- what is read under a name
abbrev pub seen : Disk → Look
seen d n = option_map d.bytes (d.file_of n)

-- which bytes a crash may leave in the file of a name
abbrev pub held : Disk → List ℕ → List ℕ → Type 0
held d n bytes = (f : ℕ) × (d.file_of n ≡ Some f) × d.holds f bytes

-- whether no sync of the file of a name has failed
abbrev pub trusts : Disk → List ℕ → Type 0
trusts d n = (f : ℕ) → d.file_of n ≡ Some f → d.trusted f

-- the file that is made under a name, or emptied
abbrev pub made : Disk → List ℕ → ℕ
made d name = unwrap_or (d.file_of name) d.next

-- another value at one name
abbrev pub put : {A : Type 0} → List ℕ → A → (List ℕ → A) → List ℕ → A
put name x old n = if pointwise nat_eq name n then x else old n

-- another value at one file
abbrev pub put_at : {A : Type 0} → ℕ → A → (ℕ → A) → ℕ → A
put_at f x old g = if nat_eq f g then x else old g

abbrev pub file_after : Change → Disk → List ℕ → Option ℕ
file_after (Created name) d = put name (Some (made d name)) d.file_of
file_after (Appended f more) d = d.file_of
file_after (Cut f length) d = d.file_of
file_after (FileSynced f) d = d.file_of
file_after (SyncFailed f bytes) d = d.file_of
file_after (Moved from to) d = put to (d.file_of from) (put from None d.file_of)
file_after (Removed name) d = put name None d.file_of
file_after FolderSynced d = d.file_of

abbrev pub bytes_after : Change → Disk → ℕ → List ℕ
bytes_after (Created name) d = put_at (made d name) [] d.bytes
bytes_after (Appended f more) d = put_at f (d.bytes f ++ more) d.bytes
bytes_after (Cut f length) d = put_at f (take length (d.bytes f)) d.bytes
bytes_after (FileSynced f) d = d.bytes
bytes_after (SyncFailed f bytes) d = put_at f bytes d.bytes
bytes_after (Moved from to) d = d.bytes
bytes_after (Removed name) d = d.bytes
bytes_after FolderSynced d = d.bytes

-- A crash may leave any bytes in a file that was made or emptied; after an append what it could leave before, and then any
-- bytes, at most as many; after a sync just its own, if no sync of it had failed.
abbrev pub holds_after : Change → Disk → ℕ → List ℕ → Type 0
holds_after (Created name) d f bytes = f ≢ made d name → d.holds f bytes
holds_after (Appended g more) d f bytes =
    (f ≡ g → (kept : List ℕ) × (torn : List ℕ) × d.holds f kept × (length torn ≤ length more) × (bytes ≡ kept ++ torn)) × (f ≢ g → d.holds f bytes)
holds_after (Cut g length) d f bytes = d.holds f bytes
holds_after (FileSynced g) d f bytes = d.holds f bytes × (f ≡ g → d.trusted f → d.bytes f ≡ bytes)
holds_after (SyncFailed g other) d f bytes = d.holds f bytes
holds_after (Moved from to) d f bytes = d.holds f bytes
holds_after (Removed name) d f bytes = d.holds f bytes
holds_after FolderSynced d f bytes = d.holds f bytes

abbrev pub trusted_after : Change → Disk → ℕ → Type 0
trusted_after (Created name) d f = f ≢ made d name → d.trusted f
trusted_after (Appended g more) d f = d.trusted f
trusted_after (Cut g length) d f = d.trusted f
trusted_after (FileSynced g) d f = d.trusted f
trusted_after (SyncFailed g bytes) d f = (f ≢ g) × d.trusted f
trusted_after (Moved from to) d f = d.trusted f
trusted_after (Removed name) d f = d.trusted f
trusted_after FolderSynced d f = d.trusted f

abbrev pub kept_after : Change → Disk → List ℕ → Type 0
kept_after (Created name) d n = (n ≢ name) × d.kept n
kept_after (Appended f more) d n = d.kept n
kept_after (Cut f length) d n = d.kept n
kept_after (FileSynced f) d n = d.kept n
kept_after (SyncFailed f bytes) d n = d.kept n
kept_after (Moved from to) d n = (n ≢ from) × (n ≢ to) × d.kept n
kept_after (Removed name) d n = (n ≢ name) × d.kept n
kept_after FolderSynced d n = Unit {0}

-- Each name has what it had, or this file, as a crash leaves that.
abbrev pub MayHave : Disk → ℕ → (List ℕ → Type 0) → Look → Look → Type 0
MayHave d f holds old new = (n : List ℕ) → (new n ≡ old n) ⊎ ((d.file_of n ≡ Some f) × (bytes : List ℕ) × holds bytes × (new n ≡ Some bytes))

-- Until the folder is synced a crash may undo each change of its names: then a new name has anything, and so has the old name
-- of a file that was moved. The sync of a file puts it under its name only where the entry of the name is on the disk.
abbrev pub leaves_after : Change → Disk → Look → Type 0
leaves_after (Created name) d c = (e : Look) × d.leaves e × Elsewhere name e c
leaves_after (Appended f more) d c = (e : Look) × d.leaves e × MayHave d f (holds_after (Appended f more) d f) e c
leaves_after (Cut f length) d c = d.leaves c
leaves_after (FileSynced f) d c = d.leaves c × ((n : List ℕ) → d.file_of n ≡ Some f → d.trusted f → d.kept n → c n ≡ Some (d.bytes f))
leaves_after (SyncFailed f bytes) d c = d.leaves c
leaves_after (Moved from to) d c = (e : Look) × d.leaves e × Renamed from to (held d from) e c
leaves_after (Removed name) d c = (e : Look) × d.leaves e × LosesFile name e c
leaves_after FolderSynced d c = d.leaves c × ((n : List ℕ) → LeadsTo (seen d n) (held d n) (c n))

abbrev pub after : Change → Disk → Disk
after change d = record {
  file_of = file_after change d;
  next = d.next + 1;
  bytes = bytes_after change d;
  holds = holds_after change d;
  trusted = trusted_after change d;
  kept = kept_after change d;
  leaves = leaves_after change d;
  moment = d.moment + 1;
  left_since = λ t c. ((t ≤ d.moment) × d.left_since t c) ⊎ leaves_after change d c;
}

abbrev pub replay : List Change → Disk → Disk
replay [] start = start
replay (change ∷ earlier) start = after change (replay earlier start)

-- A call made its change, or if it failed it may have.
abbrev pub Adds : Bool → Change → List Change → List Change → Type 0
Adds true change old new = new ≡ change ∷ old
Adds false change old new = (new ≡ old) ⊎ (new ≡ change ∷ old)

-- A call wrote these bytes at the end of a file, or if it failed it may have written some.
abbrev pub Writes : Bool → ℕ → List ℕ → List Change → List Change → Type 0
Writes true f bytes old new = new ≡ Appended f bytes ∷ old
Writes false f bytes old new = (new ≡ old) ⊎ ((part : List ℕ) × (length part ≤ length bytes) × (new ≡ Appended f part ∷ old))

-- A call cut a file to a length that it has, or that it had before the last append.
pub record Cuts (f len : ℕ) (start : Disk) (old new : List Change) : Type 0 where
  pub same : len ≡ length ((replay old start).bytes f) → new ≡ old
  pub undone : (part : List ℕ) (before : List Change) → old ≡ Appended f part ∷ before → len ≡ length ((replay before start).bytes f) → Adds false (Cut f len) old new

-- A call synced a file, or it failed.
abbrev pub Syncs : Bool → ℕ → List Change → List Change → Type 0
Syncs true f old new = new ≡ FileSynced f ∷ old
Syncs false f old new = (new ≡ old) ⊎ ((bytes : List ℕ) × (new ≡ SyncFailed f bytes ∷ old))

-- What holds of a folder at every moment: a crash may leave what is read; an entry that is on the disk leads to its file; and
-- a file has one name at most.
pub record IsPossible (d : Disk) : Type 0 where
  pub look : d.leaves (seen d)
  pub leads : (n : List ℕ) (c : Look) → d.kept n → d.leaves c → LeadsTo (seen d n) (held d n) (c n)
  pub one_name : (n m : List ℕ) (f : ℕ) → d.file_of n ≡ Some f → d.file_of m ≡ Some f → n ≡ m
  pub below : (n : List ℕ) (f : ℕ) → d.file_of n ≡ Some f → f < d.next

pub record IsSound (honest : Bool) (d : Disk) : Type 0 where
  pub possible : IsTrue honest → IsPossible d
  pub counts_now : (t : ℕ) (c : Look) → t ≤ d.moment → d.leaves c → d.left_since t c
  pub only_now : (c : Look) → d.left_since d.moment c → d.leaves c

-- Nothing is known.
abbrev pub unknown : Disk
unknown = record {
  file_of = λ _. None;
  next = 0;
  bytes = λ _. [];
  holds = λ _ _. ⊥;
  trusted = λ _. ⊥;
  kept = λ _. ⊥;
  leaves = λ _. ⊥;
  moment = 0;
  left_since = λ _ _. ⊥;
}

pub unknown_is_sound : IsSound false unknown
unknown_is_sound = record {
  possible = λ h. let no : ⊥ = cc in absurd no;
  counts_now = λ t c le left. left;
  only_now = λ c left. left;
}
