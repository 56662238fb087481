-- The mark that a writer leaves for the next one: what it claims of the files, and its bytes.
use Rattle.std.specs.Prelude.{◌≡◌, ◌≢◌, ◌≤◌, ℕ, Bool, true, false, List, [], ◌∷◌, ◌++◌, Some, IsTrue, if◌then◌else◌, nat_eq, codes, map, Vec}
use Rattle.std.specs.List.{list_any}
use Rattle.std.specs.declared.alloc.Global.{Global}
use lib.Pointwise.{pointwise}
use Rattle.store_files.specs.Disk.{Disk, seen, held, trusts}
use Rattle.store_files.specs.Known.{Claims}
use Rattle.store_files.specs.Knowledge.{is_part, rank}
use Rattle.store_files.specs.declared.knowledge.Standing.{Standing}
use Rattle.store_files.specs.declared.knowledge.Standing.TheVariants.{Failed, Unsynced, Synced}
use Rattle.store_files.specs.declared.knowledge.Doing.{Doing}
use Rattle.store_files.specs.declared.knowledge.Doing.TheVariants.{Created, Appended, Moved, Removed, FileSynced, SyncFailed, FolderSynced}
use Rattle.store_files.specs.declared.mark.MarkKind.{MarkKind}
use Rattle.store_files.specs.declared.mark.MarkKind.TheVariants.{Ended, Open, Unsure}
use Rattle.store_files.specs.declared.mark.Mark.{Mark}

-- what a mark claims of the files that it does not name
abbrev pub others_of : MarkKind → Standing
others_of Ended = Synced
others_of Open = Synced
others_of Unsure = Unsynced

abbrev pub claims_entries : MarkKind → Bool
claims_entries Ended = true
claims_entries Open = false
claims_entries Unsure = false

-- whether a name is among these
abbrev pub named : List (Vec ℕ Global) → List ℕ → Bool
named names n = list_any (λ (name : Vec ℕ Global). pointwise nat_eq name.items n) names

-- what a mark claims of the file of a name
abbrev pub claimed : Mark → List ℕ → Standing
claimed mark n = if is_part n then Failed else (if named mark.names.items n then Failed else others_of mark.kind)

abbrev pub claims_of : Mark → Claims
claims_of mark = record { files = claimed mark; entries = claims_entries mark.kind }

-- A mark claims no more than this, which is known.
pub record ClaimsNoMore (mark : Mark) (others : Standing) (known : List ℕ → Standing) (entries : Bool) : Type 0 where
  pub files : (n : List ℕ) → rank (claimed mark n) ≤ rank (known n)
  pub rest : rank (others_of mark.kind) ≤ rank others
  pub all_entries : IsTrue (claims_entries mark.kind) → IsTrue entries

-- What may be done under a mark: it claims nothing of a file of which less may be known then.
abbrev pub Covers : Mark → (List ℕ → Standing) → Doing → Type 0
Covers mark known (Created name) = (mark.kind ≢ Ended) × (claimed mark name.now ≡ Failed)
Covers mark known (Appended name) = claimed mark name.now ≡ Failed
Covers mark known (SyncFailed name) = claimed mark name.now ≡ Failed
Covers mark known (Moved from to) = (mark.kind ≢ Ended) × (rank (claimed mark to.now) ≤ rank (known from.now))
Covers mark known (Removed name) = mark.kind ≢ Ended
Covers mark known (FileSynced name) = Unit {0}
Covers mark known FolderSynced = Unit {0}

-- What may be done in a folder, so that what is claimed of it stays so.
abbrev pub Permits : Claims → Disk → Doing → Type 0
Permits c d (Created name) = (c.entries ≡ false) × (c.files name.now ≡ Failed)
Permits c d (Appended name) = c.files name.now ≡ Failed
Permits c d (SyncFailed name) = c.files name.now ≡ Failed
Permits c d (Moved from to) = (c.entries ≡ false) × (c.files to.now ≢ Failed → trusts d from.now) × ((bytes : List ℕ) → c.files to.now ≡ Synced → held d from.now bytes → seen d from.now ≡ Some bytes)
Permits c d (Removed name) = c.entries ≡ false
Permits c d (FileSynced name) = Unit {0}
Permits c d FolderSynced = Unit {0}

-- Bytes in which no byte is 0.
abbrev pub IsPlain : List ℕ → Type 0
IsPlain [] = Unit {0}
IsPlain (b ∷ bytes) = (b ≢ 0) × IsPlain bytes

-- Names that a mark can have: none is empty, and none has a byte 0.
abbrev pub AreNames : List (List ℕ) → Type 0
AreNames [] = Unit {0}
AreNames (name ∷ names) = (name ≢ []) × IsPlain name × AreNames names

abbrev pub word : MarkKind → List ℕ
word Ended = codes "ended"
word Open = codes "open"
word Unsure = codes "unsure"

-- the names of a mark
abbrev pub texts : List (Vec ℕ Global) → List (List ℕ)
texts names = map (λ (name : Vec ℕ Global). name.items) names

-- each name, with a byte 0 after it, and then what follows them
abbrev pub fields : List (List ℕ) → List ℕ → List ℕ
fields [] rest = rest
fields (name ∷ names) rest = name ++ 0 ∷ fields names rest

-- the bytes of a mark, and what follows them: its kind, the number of the machine's start, the file's inode, the names,
-- and a name that is empty
abbrev pub mark_bytes : List ℕ → List ℕ → List ℕ → List (List ℕ) → List ℕ → List ℕ
mark_bytes kind boot inode names rest = fields (kind ∷ boot ∷ inode ∷ names) (0 ∷ rest)

-- These bytes begin with a whole mark, of this start of the machine and this inode.
abbrev pub IsMarkOf : List ℕ → List ℕ → List ℕ → Mark → Type 0
IsMarkOf bytes boot inode mark = (rest : List ℕ) × (bytes ≡ mark_bytes (word mark.kind) boot inode (texts mark.names.items) rest)

-- A mark that claims nothing but that no sync has failed.
abbrev pub IsBlank : Mark → Type 0
IsBlank mark = (mark.kind ≡ Unsure) × (mark.names.items ≡ [])
