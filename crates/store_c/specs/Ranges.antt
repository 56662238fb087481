-- What the calls are answered that read parts of a file which lies elsewhere.
use Rattle.std.specs.Prelude.{◌⊎◌, ◌≢◌, ℕ, ◌+◌, ◌<◌, ◌≤◌, ◌^◌, List, length, slice_range}
use Rattle.store_reader.specs.StoreTails.{IsTailOf}
use Rattle.store_c.specs.declared.block_place.BlockPlace.{BlockPlace}
use Rattle.store_c.specs.Getting.{HasBlock, RefusesUnopened}

-- These bytes are a part of the file. They are the block of each of these documents, if it is the file of a store.
abbrev pub HasBlockAt : List ℕ → BlockPlace → List ℕ → Type 0
HasBlockAt file at block = HasBlock file at.first_doc at.end_doc at.start block

-- So it is in each file with this end.
abbrev pub IsBlockPlace : ℕ → List ℕ → BlockPlace → Type 0
IsBlockPlace file_len tail at = (file : List ℕ) → IsTailOf file file_len tail
    → HasBlockAt file at (slice_range file at.start (at.start + at.len))

-- Each file with this end is no store's, and is refused so.
abbrev pub RefusesTail : ℕ → List ℕ → ℕ → Type 0
RefusesTail file_len tail number = (file : List ℕ) → IsTailOf file file_len tail → RefusesUnopened file number

-- The place is of no such block: the document is not one of it, these are not this many bytes, or no file is so long.
abbrev pub IsOtherBlock : BlockPlace → List ℕ → ℕ → Type 0
IsOtherBlock at block id =
    (id < at.first_doc) ⊎ (at.end_doc ≤ id) ⊎ (length block ≢ at.len) ⊎ (2 ^ 64 ≤ at.start + at.len)
