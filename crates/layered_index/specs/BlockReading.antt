-- Reading from the front of bytes: a checkpoint, the heading of a block, a block, and a block in short.
use Rattle.std.specs.Prelude.{◌≡◌, ℕ, zero, suc, ◌+◌, ◌/◌, ◌^◌, nat_lt, ◌==◌, if◌then◌else◌, List, [], ◌∷◌, ◌++◌}
use Rattle.std.specs.Prelude.{length, Option, Some, None}
use Rattle.store_base.specs.VInt.{◌>>=◌, number_below}
use Rattle.layered_index.specs.declared.checkpoint.Checkpoint.{Checkpoint}
use Rattle.layered_index.specs.declared.run_reading.Heading.{Heading}
use Rattle.layered_index.specs.declared.layers.Run.{Run}
use Rattle.layered_index.specs.Checkpoint.{checkpoint, docs_end, bytes_end, IsInLine, checkpoint_block}

-- one checkpoint, which begins at this document and this byte
unfoldable pub step_at : ℕ → ℕ → List ℕ → Option (Checkpoint × List ℕ)
step_at doc byte bytes =
    number_below (2 ^ 32) bytes >>= λ docs. number_below (2 ^ 32) docs.1 >>= λ len.
    if nat_lt (doc + docs.0) (2 ^ 32) then (if nat_lt (byte + len.0) (2 ^ 64) then Some
    (checkpoint doc (doc + docs.0) byte (byte + len.0), len.1) else None) else None

-- this many, each from where the one before it ends
unfoldable pub steps_at : ℕ → ℕ → ℕ → List ℕ → Option (List Checkpoint × List ℕ)
steps_at zero doc byte bytes = Some ([], bytes)
steps_at (suc more) doc byte bytes =
    step_at doc byte bytes >>= λ c. steps_at more c.0.doc_range.end c.0.byte_range.end c.1 >>= λ others. Some
    (c.0 ∷ others.0, others.1)

-- A checkpoint takes at least two bytes, so no more are claimed than could follow.
unfoldable pub heading_at : List ℕ → Option (Heading × List ℕ)
heading_at bytes =
    number_below (2 ^ 64) bytes >>= λ count.
    if count.0 == 0
    then Some (record { count = 0; doc = 0; byte = 0 }, count.1)
    else (
    if nat_lt (length count.1 / 2) count.0
    then None
    else (number_below (2 ^ 32) count.1 >>= λ doc. number_below (2 ^ 64) doc.1 >>= λ byte. Some
    (record { count = count.0; doc = doc.0; byte = byte.0 }, byte.1))
    )

-- a checkpoint block, and the bytes after it
unfoldable pub checkpoint_block_at : List ℕ → Option (List Checkpoint × List ℕ)
checkpoint_block_at bytes = heading_at bytes >>= λ h. steps_at h.0.count h.0.doc h.0.byte h.1

-- where checkpoints that were read end
abbrev pub ends_of : ℕ → ℕ → Option (List Checkpoint × List ℕ) → Option (ℕ × ℕ × List ℕ)
ends_of doc byte read = read >>= λ x. Some (docs_end doc x.0, bytes_end byte x.0, x.1)

-- a block in short, and the bytes after it
unfoldable pub run_at : List ℕ → Option (Run × List ℕ)
run_at bytes =
    heading_at bytes >>= λ h. ends_of h.0.doc h.0.byte (steps_at h.0.count h.0.doc h.0.byte h.1) >>= λ e.
    Some (record { count = h.0.count; doc = h.0.doc; byte = h.0.byte; doc_end = e.0; byte_end = e.1 }, e.2)

-- a front of the bytes is the block of a list in line
abbrev pub HasBlock : List ℕ → Type 0
HasBlock bytes = (cs : List Checkpoint) × (rest : List ℕ) × IsInLine cs × (bytes ≡ checkpoint_block cs ++ rest)

-- These bytes are the block of this list, which is in line, and then the rest.
abbrev pub BeginsWithBlock : List ℕ → List Checkpoint × List ℕ → Type 0
BeginsWithBlock bytes read = IsInLine read.0 × (bytes ≡ checkpoint_block read.0 ++ read.1)
