-- Calls of a folder as data, and what a list of them does to it.
use Rattle.std.specs.Prelude.{◌≡◌, ◌≢◌, ◌⊎◌, ℕ, List, [], ◌∷◌, ◌++◌, length, Bool, true, false, Some, None, IsSome, IsTrue, unwrap_or}
use Rattle.store_folder.specs.Moments.{ComesFrom, NoMore, Elapses}
use Rattle.store_folder.specs.Folder.{Look, Elsewhere, ElsewhereOfBoth, FilesElsewhere, FilesElsewhereOfBoth, Extends, Written, Renamed, LosesFile, EntriesAreKept, Keeps}
use Rattle.store_folder.specs.Folder.{EntriesStay, EntriesStayElsewhere, EntriesStayElsewhereOfBoth}
use Rattle.store_folder.specs.declared.calls.FolderCall.{FolderCall}
use Rattle.store_folder.specs.declared.calls.FolderCall.TheVariants.{Create, Append, SyncFile, Rename, Remove, Sync}

-- a call, with its names and bytes
pub data Doing : Type 0 where
  creates : List ℕ → Doing
  appends : List ℕ → List ℕ → Doing
  syncs : List ℕ → Doing
  renames : List ℕ → List ℕ → Doing
  removes : List ℕ → Doing
  syncs_folder : Doing

abbrev pub doing_of : FolderCall → Doing
doing_of (Create name) = creates name.now
doing_of (Append name bytes) = appends name.now bytes.now
doing_of (SyncFile name) = syncs name.now
doing_of (Rename from to) = renames from.now to.now
doing_of (Remove name) = removes name.now
doing_of Sync = syncs_folder

-- what is known of the folders of a type
pub record Kind (F : Type 0) : Type 1 where
  pub seen : F → Look
  pub may_hold : F → List ℕ → List ℕ → Type 0
  pub may_leave : F → Look → Type 0
  pub moment : F → ℕ
  pub left_since : F → ℕ → Look → Type 0
  pub entry_kept : F → List ℕ → Type 0
  pub trusted : F → List ℕ → Type 0

abbrev pub kind : {F : Type 0} → (F → Look) → (F → List ℕ → List ℕ → Type 0) → (F → Look → Type 0) → (F → ℕ) → (F → ℕ → Look → Type 0) → (F → List ℕ → Type 0) → (F → List ℕ → Type 0) → Kind F
kind seen may_hold may_leave moment left_since entry_kept trusted = record {
  seen = seen;
  may_hold = may_hold;
  may_leave = may_leave;
  moment = moment;
  left_since = left_since;
  entry_kept =
      entry_kept;
  trusted = trusted;
}

abbrev pub ElapsesTo : {F : Type 0} → Kind F → F → F → Type 0
ElapsesTo k old new = Elapses (k.moment old) (k.moment new) (k.left_since old) (k.left_since new) (k.may_leave new)

-- What each call does, and whether it returned Ok: what `Folder` says of it.
pub record Creates {F : Type 0} (k : Kind F) (name : List ℕ) (ok : Bool) (old new : F) : Type 0 where
  pub created : IsTrue ok → k.seen new name ≡ Some []
  pub elsewhere : Elsewhere name (k.seen old) (k.seen new)
  pub files : FilesElsewhere name (k.may_hold old) (k.may_hold new)
  pub crash : ComesFrom (Elsewhere name) (k.may_leave old) (k.may_leave new)
  pub entries : EntriesStayElsewhere name (k.entry_kept old) (k.entry_kept new)
  pub fresh : IsTrue ok → k.trusted new name
  pub trust : EntriesStayElsewhere name (k.trusted old) (k.trusted new)
  pub time : ElapsesTo k old new

pub record Appends {F : Type 0} (k : Kind F) (name bytes : List ℕ) (ok : Bool) (old new : F) : Type 0 where
  pub appended : IsTrue ok → k.seen new name ≡ Some (unwrap_or (k.seen old name) [] ++ bytes)
  pub elsewhere : Elsewhere name (k.seen old) (k.seen new)
  pub file : Extends (length bytes) (k.may_hold old name) (k.may_hold new name)
  pub files : FilesElsewhere name (k.may_hold old) (k.may_hold new)
  pub crash : ComesFrom (Written name (k.may_hold new name)) (k.may_leave old) (k.may_leave new)
  pub entries : EntriesStay (k.entry_kept old) (k.entry_kept new)
  pub trust : EntriesStay (k.trusted old) (k.trusted new)
  pub time : ElapsesTo k old new

pub record Syncs {F : Type 0} (k : Kind F) (name : List ℕ) (ok : Bool) (old new : F) : Type 0 where
  pub durable : IsTrue ok → k.trusted old name → (bytes : List ℕ) → k.may_hold new name bytes → k.seen old name ≡ Some bytes
  pub seen : IsTrue ok → k.seen new name ≡ k.seen old name
  pub elsewhere : Elsewhere name (k.seen old) (k.seen new)
  pub files : (n bytes : List ℕ) → k.may_hold new n bytes → k.may_hold old n bytes
  pub crash : NoMore (k.may_leave old) (k.may_leave new)
  pub entries : EntriesStay (k.entry_kept old) (k.entry_kept new)
  pub kept : IsTrue ok → k.trusted old name → k.entry_kept old name → Keeps name (k.seen old name) (k.may_leave new)
  pub trust : IsTrue ok → EntriesStay (k.trusted old) (k.trusted new)
  pub mistrust : EntriesStayElsewhere name (k.trusted old) (k.trusted new)
  pub time : ElapsesTo k old new

pub record Renames {F : Type 0} (k : Kind F) (from to : List ℕ) (ok : Bool) (old new : F) : Type 0 where
  pub renamed : IsTrue ok → k.seen new to ≡ k.seen old from
  pub gone : IsTrue ok → k.seen new from ≡ None
  pub elsewhere : ElsewhereOfBoth from to (k.seen old) (k.seen new)
  pub file : IsTrue ok → (bytes : List ℕ) → k.may_hold new to bytes → k.may_hold old from bytes
  pub files : FilesElsewhereOfBoth from to (k.may_hold old) (k.may_hold new)
  pub crash : ComesFrom (Renamed from to (k.may_hold old from)) (k.may_leave old) (k.may_leave new)
  pub entries : EntriesStayElsewhereOfBoth from to (k.entry_kept old) (k.entry_kept new)
  pub moved : IsTrue ok → k.trusted old from → k.trusted new to
  pub trust : EntriesStayElsewhereOfBoth from to (k.trusted old) (k.trusted new)
  pub time : ElapsesTo k old new

pub record Removes {F : Type 0} (k : Kind F) (name : List ℕ) (ok : Bool) (old new : F) : Type 0 where
  pub removed : IsTrue ok → k.seen new name ≡ None
  pub elsewhere : Elsewhere name (k.seen old) (k.seen new)
  pub files : FilesElsewhere name (k.may_hold old) (k.may_hold new)
  pub crash : ComesFrom (LosesFile name) (k.may_leave old) (k.may_leave new)
  pub entries : EntriesStayElsewhere name (k.entry_kept old) (k.entry_kept new)
  pub trust : EntriesStayElsewhere name (k.trusted old) (k.trusted new)
  pub time : ElapsesTo k old new

pub record SyncsFolder {F : Type 0} (k : Kind F) (ok : Bool) (old new : F) : Type 0 where
  pub durable : IsTrue ok → EntriesAreKept (k.seen old) (k.may_hold old) (k.may_leave new)
  pub seen : (n : List ℕ) → k.seen new n ≡ k.seen old n
  pub files : (n bytes : List ℕ) → k.may_hold new n bytes → k.may_hold old n bytes
  pub crash : NoMore (k.may_leave old) (k.may_leave new)
  pub entries : EntriesStay (k.entry_kept old) (k.entry_kept new)
  pub kept : IsTrue ok → (n : List ℕ) → k.entry_kept new n
  pub trust : EntriesStay (k.trusted old) (k.trusted new)
  pub time : ElapsesTo k old new

abbrev pub Does : {F : Type 0} → Kind F → Doing → Bool → F → F → Type 0
Does k (creates name) ok old new = Creates k name ok old new
Does k (appends name bytes) ok old new = Appends k name bytes ok old new
Does k (syncs name) ok old new = Syncs k name ok old new
Does k (renames from to) ok old new = Renames k from to ok old new
Does k (removes name) ok old new = Removes k name ok old new
Does k syncs_folder ok old new = SyncsFolder k ok old new

-- The calls were made one after the other, each after the Ok of the one before it, and all returned Ok; or the last of
-- them that was made failed.
abbrev pub Carried : {F : Type 0} → Kind F → List Doing → Bool → F → F → Type 0
Carried k [] ok old new = (ok ≡ true) × (new ≡ old)
Carried {F = F} k (call ∷ calls) ok old new = ((ok ≡ false) × Does k call false old new) ⊎ ((mid : F) × Does k call true old mid × Carried k calls ok mid new)

-- The files that a call needs are there.
abbrev pub IsReady : Look → Doing → Type 0
IsReady look (appends name bytes) = IsSome (look name)
IsReady look (syncs name) = IsSome (look name)
IsReady look (renames from to) = IsSome (look from)
IsReady look _ = Unit {0}

-- So are those that each call of a list needs, after those before it.
abbrev pub AreReady : {F : Type 0} → Kind F → List Doing → F → Type 0
AreReady k [] f = Unit {0}
AreReady {F = F} k (call ∷ calls) f = IsReady (k.seen f) call × ((mid : F) → Does k call true f mid → AreReady k calls mid)

-- A renaming gives another name.
abbrev pub IsApart : Doing → Type 0
IsApart (renames from to) = from ≢ to
IsApart _ = Unit {0}

-- the file beside a name is given the name
abbrev pub publishing : List ℕ → List ℕ → List Doing
publishing beside name = syncs beside ∷ renames beside name ∷ syncs_folder ∷ []

-- a file of these bytes is made beside the name, and given it
abbrev pub replacing : List ℕ → List ℕ → List ℕ → List Doing
replacing beside name bytes = creates beside ∷ appends beside bytes ∷ publishing beside name
