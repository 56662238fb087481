-- Laws of marks.
use Rattle.std.specs.Prelude.{◌≡◌, ◌++◌, ℕ, List, []}
use Rattle.store_files.specs.Mark.{IsPlain, AreNames, mark_bytes}

-- Bytes are one mark at most: of one start of the machine and one inode. So a mark of another start, or of another folder's file, is not read as one of these, nor is one that was cut.
pub record EndMarksAreRight : Type 0 where
  pub one : (kind boot inode other_kind other_boot other_inode : List ℕ) (names other_names : List (List ℕ)) (rest other_rest : List ℕ) → IsPlain kind → IsPlain boot → IsPlain inode
      → IsPlain other_kind → IsPlain other_boot → IsPlain other_inode → AreNames names → AreNames other_names
      → mark_bytes kind boot inode names rest ≡ mark_bytes other_kind other_boot other_inode other_names other_rest
      → (kind ≡ other_kind) × (boot ≡ other_boot) × (inode ≡ other_inode) × (names ≡ other_names) × (rest ≡ other_rest)
  pub torn : (kind boot inode other_kind other_boot other_inode : List ℕ) (names other_names : List (List ℕ)) (cut lost other_rest : List ℕ) → IsPlain kind → IsPlain boot → IsPlain inode
      → IsPlain other_kind → IsPlain other_boot → IsPlain other_inode → AreNames names → AreNames other_names
      → mark_bytes kind boot inode names [] ≡ cut ++ lost → cut ≡ mark_bytes other_kind other_boot other_inode other_names other_rest → lost ≡ []
