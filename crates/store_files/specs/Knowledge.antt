-- What a writer knows of the files of its folder, by what it did to them. The doings are the last of them first.
use Rattle.std.specs.Prelude.{◌≡◌, ◌≢◌, ◌⊎◌, ◌≤◌, ℕ, Bool, true, false, List, [], ◌∷◌, if◌then◌else◌, nat_eq}
use Rattle.std.specs.List.{ends_with}
use lib.Pointwise.{pointwise}
use Rattle.store_folder.specs.Publishing.{part}
use Rattle.store_files.specs.declared.knowledge.Standing.{Standing}
use Rattle.store_files.specs.declared.knowledge.Standing.TheVariants.{Failed, Unsynced, Synced}
use Rattle.store_files.specs.declared.knowledge.TouchedFile.{TouchedFile}
use Rattle.store_files.specs.declared.knowledge.Knowledge.{Knowledge}
use Rattle.store_files.specs.declared.knowledge.Doing.{Doing}
use Rattle.store_files.specs.declared.knowledge.Doing.TheVariants.{Created, Appended, Moved, Removed, FileSynced, SyncFailed, FolderSynced}

-- a file that lies beside another
abbrev pub is_part : List ℕ → Bool
is_part n = ends_with nat_eq n part

-- how much is known
abbrev pub rank : Standing → ℕ
rank Failed = 0
rank Unsynced = 1
rank Synced = 2

abbrev pub is_failed : Standing → Bool
is_failed Failed = true
is_failed Unsynced = false
is_failed Synced = false

abbrev pub is_on_disk : Standing → Bool
is_on_disk Failed = false
is_on_disk Unsynced = false
is_on_disk Synced = true

-- what is known of a file that was not touched
abbrev pub untouched : Standing → List ℕ → Standing
untouched others n = if is_part n then Failed else others

-- what is known of a file, by those that were touched
abbrev pub standing_in : Standing → List TouchedFile → List ℕ → Standing
standing_in others [] n = untouched others n
standing_in others (file ∷ files) n = if pointwise nat_eq file.name.items n then file.standing else standing_in others files n

abbrev pub said : Knowledge → List ℕ → Standing
said k n = standing_in k.others k.touched.items n

-- A sync that failed counts until the file is made again.
abbrev pub unless_failed : Standing → Standing → Standing
unless_failed Failed new = Failed
unless_failed Unsynced new = new
unless_failed Synced new = new

-- A file has this standing now.
abbrev pub with_standing : List ℕ → Standing → (List ℕ → Standing) → List ℕ → Standing
with_standing name standing old n = if pointwise nat_eq name n then standing else old n

-- A file was written or synced.
abbrev pub passed_to : List ℕ → Standing → (List ℕ → Standing) → List ℕ → Standing
passed_to name standing old = with_standing name (unless_failed (old name) standing) old

-- A file has another name.
abbrev pub moved : List ℕ → List ℕ → Standing → (List ℕ → Standing) → List ℕ → Standing
moved from to others old = with_standing to (old from) (λ n. if pointwise nat_eq from n then untouched others n else old n)

-- what is known of the file of a name after one doing more
abbrev pub after : Doing → Standing → (List ℕ → Standing) → List ℕ → Standing
after (Created name) others old = with_standing name.now Unsynced old
after (Appended name) others old = passed_to name.now Unsynced old
after (FileSynced name) others old = passed_to name.now Synced old
after (SyncFailed name) others old = with_standing name.now Failed old
after (Moved from to) others old = moved from.now to.now others old
after (Removed name) others old = λ n. if pointwise nat_eq name.now n then untouched others n else old n
after FolderSynced others old = old

-- what is known of the file of a name after these doings
abbrev pub known_by : Standing → (List ℕ → Standing) → List Doing → List ℕ → Standing
known_by others start [] = start
known_by others start (doing ∷ earlier) = after doing others (known_by others start earlier)

-- whether the entry of each name is on the disk after one doing more
abbrev pub entries_after : Doing → Bool → Bool
entries_after (Created name) old = false
entries_after (Appended name) old = old
entries_after (FileSynced name) old = old
entries_after (SyncFailed name) old = old
entries_after (Moved from to) old = false
entries_after (Removed name) old = false
entries_after FolderSynced old = true

abbrev pub entries_by : Bool → List Doing → Bool
entries_by start [] = start
entries_by start (doing ∷ earlier) = entries_after doing (entries_by start earlier)

-- What is said now is what is known, unless memory ran out: then it is no more than this.
pub record IsOf (others : Standing) (known : List ℕ → Standing) (others_now : Standing) (now : List ℕ → Standing) : Type 0 where
  pub rest : (others_now ≡ others) ⊎ (others_now ≡ Failed)
  pub exact : others_now ≢ Failed → (n : List ℕ) → now n ≡ known n
  pub no_more : (n : List ℕ) → rank (now n) ≤ rank (known n)
