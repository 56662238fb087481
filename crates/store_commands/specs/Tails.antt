-- Parts of a file, and what tantivy's directory leaves after a store.
use Rattle.std.specs.Prelude.{◌≡◌, ℕ, ◌-◌, ◌<◌, ◌≤◌, ◌^◌, ◌⊎◌, IsTrue, List, ◌++◌, length, slice_range, Err, Option, Some, None}
use Rattle.store_base.specs.Files.{Part, ReadsOnce}
use Rattle.store_base.specs.Serialize.{fixed}
use Rattle.store_format.specs.FileReading.{Comes}
use Rattle.store_base.specs.declared.error.StoreError.{StoreError}

-- Bytes from one place to another are no range of this many bytes.
abbrev pub IsNoRange : ℕ → ℕ → ℕ → Type 0
IsNoRange from to len = (to < from) ⊎ (len < to)

-- the last eight bytes of a file of tantivy's directory: the length of the text before them, and 1337
abbrev pub tail_of : ℕ → List ℕ
tail_of len = fixed 4 len ++ fixed 4 1337

-- A file of tantivy's directory: a store, a text, and the eight bytes.
pub record HasTail (file store : List ℕ) : Type 0 where
  pub text : List ℕ
  pub few : length text < 2 ^ 32
  pub parts : file ≡ store ++ (text ++ tail_of (length text))

-- A file has no such tail after any store.
abbrev pub HasNoTail : List ℕ → Type 0
HasNoTail file = (store : List ℕ) → HasTail file store → ⊥

-- A file was looked at, by one read of its last eight bytes where it has as many, for the end of a store before a tail.
abbrev pub HasLooked : Part → Part → Option ℕ → Type 0
HasLooked file read (Some end) = ReadsOnce 8 file read × (end ≤ length file.content)
    × (IsTrue file.honest → HasTail file.content (slice_range file.content 0 end))
HasLooked file read None = (ReadsOnce 8 file read ⊎ ((length file.content < 8) × (read ≡ file)))
    × (IsTrue file.honest → HasNoTail file.content)

-- The read of a file's last eight bytes failed, or memory ran out.
abbrev pub FailsLook : Part → Part → StoreError → Type 0
FailsLook file read e = Comes file (length file.content - 8) (length file.content) (Err e) read
