-- What reads leave of a file.
use Rattle.std.specs.Prelude.{◌≡◌, ℕ, ◌+◌, ◌≤◌}
use Rattle.store_base.specs.Files.{Part}

-- what at most this many reads of at most this many bytes in all leave of a file
pub record ReadsAtMost (most bytes : ℕ) (old new : Part) : Type 0 where
  pub content : new.content ≡ old.content
  pub honest : new.honest ≡ old.honest
  pub reads : new.reads ≤ old.reads + most
  pub asked : new.asked ≤ old.asked + bytes
  pub failures : old.failures ≤ new.failures
