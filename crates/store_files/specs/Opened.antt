-- A folder that is open.
use Rattle.std.specs.Prelude.{◌≡◌, ℕ, List, Bool, Option, Some, IfSome}
use Rattle.store_files.specs.Disk.{Disk}
use Rattle.store_files.specs.Paths.{IsIn}
use Rattle.store_files.specs.Known.{Knows, Claims, AreSo}
use Rattle.store_files.specs.Mark.{claims_of}
use Rattle.store_files.specs.declared.mark.Mark.{Mark}
use Rattle.store_files.specs.declared.knowledge.Standing.{Standing}

-- the system, the path of the folder, whether it is locked, whether it is open to be read alone, whether it keeps a mark, and how often a call failed
pub record Opened (S : Type 0) : Type 0 where
  pub system : S
  pub path : List ℕ
  pub is_locked : Bool
  pub is_read_only : Bool
  pub keeps_mark : Bool
  pub failures : ℕ

-- The open file is the one of this name.
pub record IsTracked (d : Disk) (folder name opened_as : List ℕ) (number : ℕ) : Type 0 where
  pub inside : IsIn folder opened_as
  pub there : d.file_of name ≡ Some number

-- The folder's own file is open, and what is known of its files is so.
pub record IsReady (d : Disk) (path opened_as : List ℕ) (known : List ℕ → Standing) (entries : Bool) : Type 0 where
  pub folder : opened_as ≡ path
  pub knows : Knows known entries d

-- The lock of the folder is open, and its mark is this one, unless a write of it failed. What is claimed is so, and was at each moment since the folder was opened.
pub record IsMarked (locks : Option (Option (List ℕ))) (place : Option (List ℕ × List ℕ)) (was_so : Type 0) (claims : Claims) (d : Disk) (path boot inode : List ℕ) (mark : Option Mark) : Type 0 where
  pub lock : locks ≡ Some (Some path)
  pub here : place ≡ Some (boot, inode)
  pub claimed : IfSome mark (λ m. claims ≡ claims_of m)
  pub so : AreSo claims d
  pub always : was_so
