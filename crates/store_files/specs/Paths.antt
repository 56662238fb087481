-- Which path is that of a file of a folder.
use Rattle.std.specs.Prelude.{◌≡◌, ◌≢◌, ℕ, List, [], ◌∷◌, ◌++◌, codes}
use Rattle.std.specs.List.{Contains}

-- what is between the path of a folder and the name of a file in it
abbrev pub slash : ℕ
slash = 47

-- A name that a folder may give to a file. The one by which a writer keeps others out is none.
pub record IsFileName (name : List ℕ) : Type 0 where
  pub some : name ≢ []
  pub one : Contains name slash → ⊥
  pub not_itself : name ≢ codes "."
  pub not_above : name ≢ codes ".."
  pub not_lock : name ≢ codes "lock"

-- It is the path of the file of this name in this folder.
pub record IsPath (folder name path : List ℕ) : Type 0 where
  pub is_name : IsFileName name
  pub joined : path ≡ folder ++ slash ∷ name

-- the path of the file by which a writer keeps others out
abbrev pub lock_of : List ℕ → List ℕ
lock_of folder = folder ++ codes "/lock"

-- It is the path of a file in this folder.
abbrev pub IsIn : List ℕ → List ℕ → Type 0
IsIn folder path = (name : List ℕ) × IsPath folder name path
