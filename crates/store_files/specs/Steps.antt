-- What each call of a folder does to it, in the words of `Folder`.
use Rattle.std.specs.Prelude.{◌≡◌, ◌≢◌, ℕ, ◌++◌, Bool, IsTrue, List, length, Some, None, [], unwrap_or}
use Rattle.store_folder.specs.Moments.{ComesFrom, NoMore, Elapses}
use Rattle.store_folder.specs.Folder.{Elsewhere, ElsewhereOfBoth, FilesElsewhere, FilesElsewhereOfBoth, Extends, Written, Renamed, LosesFile}
use Rattle.store_folder.specs.Folder.{EntriesAreKept, Keeps, EntriesStay, EntriesStayElsewhere, EntriesStayElsewhereOfBoth}
use Rattle.store_files.specs.Disk.{Disk, seen, held, trusts}

abbrev pub Passes : Disk → Disk → Type 0
Passes old new = Elapses old.moment new.moment old.left_since new.left_since new.leaves

pub record Creates (name : List ℕ) (ok : Bool) (old new : Disk) : Type 0 where
  pub created : IsTrue ok → seen new name ≡ Some []
  pub elsewhere : Elsewhere name (seen old) (seen new)
  pub files : FilesElsewhere name (held old) (held new)
  pub crash : ComesFrom (Elsewhere name) old.leaves new.leaves
  pub entries : EntriesStayElsewhere name old.kept new.kept
  pub fresh : IsTrue ok → trusts new name
  pub trust : EntriesStayElsewhere name (trusts old) (trusts new)
  pub names : (n : List ℕ) → n ≢ name → new.file_of n ≡ old.file_of n
  pub time : Passes old new

pub record Appends (name bytes : List ℕ) (ok : Bool) (old new : Disk) : Type 0 where
  pub appended : IsTrue ok → seen new name ≡ Some (unwrap_or (seen old name) [] ++ bytes)
  pub elsewhere : Elsewhere name (seen old) (seen new)
  pub file : Extends (length bytes) (held old name) (held new name)
  pub files : FilesElsewhere name (held old) (held new)
  pub crash : ComesFrom (Written name (held new name)) old.leaves new.leaves
  pub entries : EntriesStay old.kept new.kept
  pub trust : EntriesStay (trusts old) (trusts new)
  pub names : (n : List ℕ) → new.file_of n ≡ old.file_of n
  pub time : Passes old new

pub record SyncsFile (name : List ℕ) (ok : Bool) (old new : Disk) : Type 0 where
  pub durable : IsTrue ok → trusts old name → (bytes : List ℕ) → held new name bytes → seen old name ≡ Some bytes
  pub same : IsTrue ok → seen new name ≡ seen old name
  pub elsewhere : Elsewhere name (seen old) (seen new)
  pub files : (n bytes : List ℕ) → held new n bytes → held old n bytes
  pub crash : NoMore old.leaves new.leaves
  pub entries : EntriesStay old.kept new.kept
  pub stays : IsTrue ok → trusts old name → old.kept name → Keeps name (seen old name) new.leaves
  pub trust : IsTrue ok → EntriesStay (trusts old) (trusts new)
  pub mistrust : EntriesStayElsewhere name (trusts old) (trusts new)
  pub names : (n : List ℕ) → new.file_of n ≡ old.file_of n
  pub time : Passes old new

pub record Renames (from to : List ℕ) (ok : Bool) (old new : Disk) : Type 0 where
  pub renamed : IsTrue ok → seen new to ≡ seen old from
  pub gone : IsTrue ok → seen new from ≡ None
  pub elsewhere : ElsewhereOfBoth from to (seen old) (seen new)
  pub file : IsTrue ok → (bytes : List ℕ) → held new to bytes → held old from bytes
  pub files : FilesElsewhereOfBoth from to (held old) (held new)
  pub crash : ComesFrom (Renamed from to (held old from)) old.leaves new.leaves
  pub entries : EntriesStayElsewhereOfBoth from to old.kept new.kept
  pub moved : IsTrue ok → trusts old from → trusts new to
  pub trust : EntriesStayElsewhereOfBoth from to (trusts old) (trusts new)
  pub new_name : IsTrue ok → new.file_of to ≡ old.file_of from
  pub names : (n : List ℕ) → n ≢ from → n ≢ to → new.file_of n ≡ old.file_of n
  pub time : Passes old new

pub record Removes (name : List ℕ) (ok : Bool) (old new : Disk) : Type 0 where
  pub removed : IsTrue ok → seen new name ≡ None
  pub elsewhere : Elsewhere name (seen old) (seen new)
  pub files : FilesElsewhere name (held old) (held new)
  pub crash : ComesFrom (LosesFile name) old.leaves new.leaves
  pub entries : EntriesStayElsewhere name old.kept new.kept
  pub trust : EntriesStayElsewhere name (trusts old) (trusts new)
  pub names : (n : List ℕ) → n ≢ name → new.file_of n ≡ old.file_of n
  pub time : Passes old new

pub record SyncsEntries (ok : Bool) (old new : Disk) : Type 0 where
  pub durable : IsTrue ok → EntriesAreKept (seen old) (held old) new.leaves
  pub same : (n : List ℕ) → seen new n ≡ seen old n
  pub files : (n bytes : List ℕ) → held new n bytes → held old n bytes
  pub crash : NoMore old.leaves new.leaves
  pub entries : EntriesStay old.kept new.kept
  pub all : IsTrue ok → (n : List ℕ) → new.kept n
  pub trust : EntriesStay (trusts old) (trusts new)
  pub names : (n : List ℕ) → new.file_of n ≡ old.file_of n
  pub time : Passes old new
