-- What is known of a file.
use Rattle.std.specs.Prelude.{◌≡◌, ℕ, ◌≤◌, List, Bool}
use Rattle.store_base.specs.Counts.{raised}

-- a file in memory: what it holds, how often it was read, and for how many bytes
pub record Content : Type 0 where
  pub content : List ℕ
  pub reads : ℕ
  pub asked : ℕ

-- a part of a file: its bytes, whether reads give them, how often the file failed, how often it was read, and for how
-- many bytes
pub record Part : Type 0 where
  pub content : List ℕ
  pub honest : Bool
  pub failures : ℕ
  pub reads : ℕ
  pub asked : ℕ

-- what one read of this many bytes leaves of a part
pub record ReadsOnce (len : ℕ) (old new : Part) : Type 0 where
  pub content : new.content ≡ old.content
  pub honest : new.honest ≡ old.honest
  pub reads : new.reads ≡ raised old.reads 1
  pub asked : new.asked ≡ raised old.asked len
  pub failures : old.failures ≤ new.failures
