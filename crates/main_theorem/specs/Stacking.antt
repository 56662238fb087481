-- Stores stacked in two orders.
use Rattle.std.specs.Prelude.{ℕ, ◌≤◌, List}
use Rattle.store_format.specs.StoreFile.{StoreBlock, IsStore}

-- the bytes are the file of these blocks, in a version that can be stacked
pub record IsNewStore (bytes : List ℕ) (blocks : List StoreBlock) : Type 0 where
  pub period : ℕ
  pub version : ℕ
  pub newer : 2 ≤ version
  pub store : IsStore period bytes version blocks
