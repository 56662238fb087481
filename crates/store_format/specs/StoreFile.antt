-- A store as a list of blocks, and its file.
use Rattle.std.specs.Prelude.{◌≡◌, ℕ, ◌+◌, ◌<◌, ◌≤◌, ◌^◌, ◌==◌, if◌then◌else◌, ◌⊎◌, List, [], ◌∷◌, ◌++◌, length, take}
use Rattle.std.specs.Prelude.{drop, replicate}
use Rattle.std.specs.List.{flat_map, sum_by, AllByRecursion}
use Rattle.layered_index.specs.declared.checkpoint.Checkpoint.{Checkpoint}
use Rattle.layered_index.specs.Checkpoint.{checkpoint, doc_count, byte_len}
use Rattle.layered_index.specs.Layers.{index_part}
use Rattle.store_format.specs.Block.{block}
use Rattle.store_format.specs.Footer.{footer}

-- a block of a store: how many documents it has, and its bytes
pub record StoreBlock : Type 0 where
  pub count : ℕ
  pub bytes : List ℕ

-- the block of these documents
abbrev pub block_of : List (List ℕ) → StoreBlock
block_of docs = record { count = length docs; bytes = block docs }

-- at least one document and one byte, fewer than 2^32 bytes
pub record IsStoreBlock (b : StoreBlock) : Type 0 where
  pub some_docs : 0 < b.count
  pub some_bytes : 0 < length b.bytes
  pub few_bytes : length b.bytes < 2 ^ 32

-- how many documents the blocks have
abbrev pub docs_in : List StoreBlock → ℕ
docs_in bs = sum_by (λ b. b.count) bs

-- each is the block of a store, and the documents can be numbered
pub record AreBlocks (bs : List StoreBlock) : Type 0 where
  pub each : AllByRecursion IsStoreBlock bs
  pub few_docs : docs_in bs < 2 ^ 32

-- the texts, joined
abbrev pub data_of : List StoreBlock → List ℕ
data_of bs = flat_map (λ b. b.bytes) bs

-- the checkpoints of the blocks, if they lie one after the other from this id and this byte on
abbrev pub checkpoints_from : ℕ → ℕ → List StoreBlock → List Checkpoint
checkpoints_from id byte [] = []
checkpoints_from id byte (b ∷ bs) = checkpoint id (id + b.count) byte (byte + length b.bytes)
    ∷ checkpoints_from (id + b.count) (byte + length b.bytes) bs

-- the checkpoints of a store
abbrev pub checkpoints_of : List StoreBlock → List Checkpoint
checkpoints_of bs = checkpoints_from 0 0 bs

-- the blocks that these checkpoints cut from the bytes
unfoldable pub blocks_at : List Checkpoint → List ℕ → List StoreBlock
blocks_at [] bytes = []
blocks_at (c ∷ cs) bytes = record { count = doc_count c; bytes = take (byte_len c) bytes }
    ∷ blocks_at cs (drop (byte_len c) bytes)

-- the data, the index and the footer
abbrev pub file_with : ℕ → ℕ → List ℕ → List StoreBlock → List ℕ
file_with period version reserved bs = data_of bs ++ index_part period (checkpoints_of bs)
    ++ footer version (length (data_of bs)) 0 reserved

-- the reserved bytes that are written
abbrev pub reserved_of : ℕ → ℕ → List ℕ
reserved_of period version = if version == 3 then period ∷ replicate 14 0 else replicate 15 0

-- the file that is written
abbrev pub file : ℕ → ℕ → List StoreBlock → List ℕ
file period version bs = file_with period version (reserved_of period version) bs

-- what a version says of the period and of the reserved bytes
abbrev pub HasForm : ℕ → ℕ → List ℕ → Type 0
HasForm period version reserved =
    (((version ≡ 1) ⊎ (version ≡ 2)) × (period ≡ 8) × (length reserved ≡ 15))
    ⊎ ((version ≡ 3) × (2 ≤ period) × (period ≤ 64) × ((others : List ℕ) × (reserved ≡ period ∷ others)
    × (length others ≡ 14)))

-- These bytes are a file of this period and this version that has these blocks.
pub record IsStore (period : ℕ) (bytes : List ℕ) (version : ℕ) (bs : List StoreBlock) : Type 0 where
  pub blocks : AreBlocks bs
  pub reserved : List ℕ
  pub form : HasForm period version reserved
  pub parts : bytes ≡ file_with period version reserved bs
