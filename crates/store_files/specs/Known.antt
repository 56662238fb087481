-- What is known of the files of a folder, and what a mark claims of them, is so.
use Rattle.std.specs.Prelude.{◌≡◌, ◌≢◌, ◌⊎◌, ℕ, Bool, true, false, IsTrue, List, Some}
use Rattle.store_files.specs.Disk.{Change, Disk, replay, seen, held, trusts}
use Rattle.store_files.specs.declared.knowledge.Standing.{Standing}
use Rattle.store_files.specs.declared.knowledge.Standing.TheVariants.{Failed, Synced}

pub record Knows (known : List ℕ → Standing) (entries : Bool) (d : Disk) : Type 0 where
  pub trusted : (n : List ℕ) → known n ≢ Failed → trusts d n
  pub synced : (n bytes : List ℕ) → known n ≡ Synced → held d n bytes → seen d n ≡ Some bytes
  pub all_entries : IsTrue entries → (n : List ℕ) → d.kept n

-- What is claimed of the files, and whether the entry of each name is claimed to be on the disk.
pub record Claims : Type 0 where
  pub files : List ℕ → Standing
  pub entries : Bool

abbrev pub AreSo : Claims → Disk → Type 0
AreSo claims d = Knows claims.files claims.entries d

-- A mark was replaced by one that claims this, or if that failed it may have been.
abbrev pub Replaces : Bool → Claims → Claims → Claims → Type 0
Replaces true claims old new = new ≡ claims
Replaces false claims old new = (new ≡ old) ⊎ (new ≡ claims)

-- A call leaves the mark of a folder as it was. If all that was claimed was so at each moment before, and what is claimed is so of the folder as it is then, it still was so.
pub record KeepsMark (old new : Claims) (was is : Type 0) (d : Disk) : Type 0 where
  pub same : new ≡ old
  pub so : was → AreSo old d → is

abbrev pub KeepsMarks : {S : Type 0} → (S → List ℕ → Claims) → (S → List ℕ → Type 0) → (S → List ℕ → List Change) → (List ℕ → Disk) → S → S → Type 0
KeepsMarks claims was_so changes start old new = (d : List ℕ) → KeepsMark (claims old d) (claims new d) (was_so old d) (was_so new d) (replay (changes new d) (start d))
