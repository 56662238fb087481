-- A document that is read without its block: its place by the end of the block, and then its bytes.
use Rattle.std.specs.Prelude.{◌≡◌, ◌⊎◌, ℕ, ◌+◌, ◌-◌, ◌*◌, ◌<◌, ◌≤◌, ◌^◌, IsTrue, IfErr, List, length, slice_range}
use Rattle.std.specs.Prelude.{is_some, if◌then◌else◌, Some, Result, Err, MatchOption}
use Rattle.store_base.specs.Counts.{HasRisen}
use Rattle.store_base.specs.Files.{Part}
use Rattle.store_base.specs.declared.error.StoreError.{StoreError}
use Rattle.store_base.specs.declared.error.StoreError.TheVariants.{DamagedDocument, Read, Memory}
use Rattle.layered_index.specs.declared.checkpoint.Checkpoint.{Checkpoint}
use Rattle.layered_index.specs.Checkpoint.{byte_len, doc_count, first_past}
use Rattle.store_format.specs.Block.{Slot, doc, damaged, slot, count_of, block}
use Rattle.store_reader.specs.CachedBlocks.{CachedBlocks, block_at, after_hit, after_miss}
use Rattle.store_reader.specs.GetAnswer.{Answers, AnswersTruly}
use Rattle.store_reader.specs.Reading.{Reading, with_parts, part_of}

-- how many bytes a block has from the entry of a document in its table on: four for this document and for each after it
-- in the block, and four for the count
abbrev pub entries_len : Checkpoint → ℕ → ℕ
entries_len c id = 4 * (c.doc_range.end - id) + 4

-- how many bytes of a document a slot has
abbrev pub slot_len : Slot → ℕ
slot_len (doc bytes) = length bytes
slot_len damaged = 0

-- These bytes are the end of a block, from the entry of document j in its table on. The table begins at this place.
pub record IsEndFrom (block : List ℕ) (table j : ℕ) (bytes : List ℕ) : Type 0 where
  pub has : j < count_of block
  pub table_is : table + 4 * (count_of block + 1) ≡ length block
  pub bytes_are : slice_range block (table + 4 * j) (length block) ≡ bytes

-- A block says as many documents as its checkpoint, and has room for their table.
pub record SaysCount (c : Checkpoint) (block : List ℕ) : Type 0 where
  pub room : 4 * (doc_count c + 1) ≤ length block
  pub count : count_of block ≡ doc_count c

-- A block of documents says the count of its checkpoint.
abbrev pub BlocksSayCounts : Type 0
BlocksSayCounts = (c : Checkpoint) (docs : List (List ℕ)) → doc_count c ≡ length docs → length (block docs) < 2 ^ 32
    → SaysCount c (block docs)

-- What is read of a file for one document of a block: at most the end of the block from the document's entry on, and the
-- block; if the block says the count of its checkpoint, at most that end and the document.
pub record DocumentComes (c : Checkpoint) (id : ℕ) (old : Part) (result : Result (List ℕ) StoreError) (new : Part)
    : Type 0 where
  pub honest : IsTrue old.honest
      → AnswersTruly id (Some (slot (part_of old.content c) (id - c.doc_range.start))) result
  pub only : IfErr result (λ e. (e ≡ DamagedDocument id) ⊎ (e ≡ Read) ⊎ (e ≡ Memory))
  pub failed : result ≡ Err Read → HasRisen old.failures new.failures
  pub steady : (result ≡ Err Read) ⊎ (new.failures ≡ old.failures)
  pub content_stays : new.content ≡ old.content
  pub honest_stays : new.honest ≡ old.honest
  pub reads : new.reads ≤ old.reads + 2
  pub most : new.asked ≤ old.asked + entries_len c id + byte_len c
  pub few : IsTrue old.honest → SaysCount c (part_of old.content c) → new.asked
      ≤ old.asked + entries_len c id + slot_len (slot (part_of old.content c) (id - c.doc_range.start))

-- the cache after a look-up that puts no block in it
abbrev pub after_asked : ℕ → CachedBlocks → CachedBlocks
after_asked key cache = if is_some (block_at key cache) then after_hit key cache else after_miss cache

-- A look-up of a document: its block answers where the cache has it, and no byte is read; otherwise the file is read.
abbrev pub DocumentIsLookedUp : Checkpoint → ℕ → Part → CachedBlocks → Result (List ℕ) StoreError → Part → Type 0
DocumentIsLookedUp c id old cache result new = MatchOption (block_at c.byte_range.start cache)
    (DocumentComes c id old result new)
    (λ block. (new ≡ old) × Answers id (slot block (id - c.doc_range.start)) result)

-- A document is looked up by its block's checkpoint. The cache has the same blocks as before.
pub record IsDocumentRead (old : Reading) (id : ℕ) (result : Result (List ℕ) StoreError) (new : Reading) : Type 0 where
  pub checkpoint : Checkpoint
  pub seeks : first_past old.checkpoints id ≡ Some checkpoint
  pub comes : DocumentIsLookedUp checkpoint id old.file old.cache result new.file
  pub stays : new ≡ with_parts old new.file (after_asked checkpoint.byte_range.start old.cache)
