-- A store in a slice of bytes.
use Rattle.std.specs.Prelude.{◌≡◌, ◌⊎◌, ℕ, ◌-◌, ◌+◌, ◌^◌, ◌<◌, ◌≤◌, Bool, true, false, List, [], ◌∷◌, ◌++◌, length, slice_get, slice_range, Option}
use Rattle.std.specs.Prelude.{Some, None, Result, Ok, Err}
use Rattle.std.specs.Borrow.{Bor}
use Rattle.store_base.specs.declared.error.StoreError.{StoreError}
use Rattle.store_base.specs.declared.error.StoreError.TheVariants.{InvalidArgument, DamagedDocument, BadIndex}
use Rattle.store_base.specs.declared.error.StoreError.TheVariants.{BadDocument, Memory}
use Rattle.layered_index.specs.declared.checkpoint.Checkpoint.{Checkpoint}
use Rattle.layered_index.specs.Checkpoint.{docs_end, first_past}
use Rattle.layered_index.specs.declared.row.Row.{Row}
use Rattle.layered_index.specs.Layers.{digit_count, index_part}
use Rattle.layered_index.specs.Rows.{AreMarksOf, AreRowsAbove}
use Rattle.layered_index.specs.Sought.{IndexBytes}
use Rattle.store_format.specs.declared.footer.DocStoreFooter.{DocStoreFooter}
use Rattle.store_format.specs.declared.version.DocStoreVersion.{DocStoreVersion}
use Rattle.store_format.specs.Block.{slot}
use Rattle.store_format.specs.Slots.{slots}
use Rattle.store_format.specs.StoreFile.{data_of, checkpoints_of}
use Rattle.store_reader.specs.declared.block_slice.BlockSlice.{BlockSlice}
use Rattle.store_reader.specs.declared.store_head.StoreHead.{StoreHead}
use Rattle.store_reader.specs.CallAnswers.{exact_result}
use Rattle.store_reader.specs.Opening.{IsSomeStore}
use Rattle.store_reader.specs.Finding.{FindsFooter, given}

-- What the document of this id is in the store whose file these bytes are: its bytes, or the refusal of this id where
-- there is none or it is damaged.
abbrev pub document_in : (bytes : List ℕ) → IsSomeStore bytes → ℕ → Result (List ℕ) StoreError
document_in bytes s id = exact_result id (slice_get (slots s.blocks) id)

-- how many documents it has
abbrev pub count_of_store : (bytes : List ℕ) → IsSomeStore bytes → ℕ
count_of_store bytes s = length (slots s.blocks)

-- These bytes are a part of the others.
pub record IsPartOf (bytes part : List ℕ) : Type 0 where
  pub start : ℕ
  pub within : start + length part ≤ length bytes
  pub part_is : part ≡ slice_range bytes start (start + length part)

-- These parts of the bytes are those of the store.
pub record IsLaidOut (bytes : List ℕ) (data_len : ℕ) (index : IndexBytes) (version : ℕ)
    (s : IsSomeStore bytes) : Type 0 where
  pub data_is : data_len ≡ length (data_of s.blocks)
  pub period_is : index.period ≡ s.period
  pub index_is : index.bytes ≡ index_part s.period (checkpoints_of s.blocks)
  pub version_is : version ≡ s.version

-- What always holds: the footer of the bytes is read, and the index lies between the data and the footer, as it says.
pub record IsStoreSlice (bytes : List ℕ) (data_len : ℕ) (index : IndexBytes) (version : DocStoreVersion) : Type 0 where
  pub footer : DocStoreFooter
  pub reads : FindsFooter bytes (Ok footer)
  pub within : data_len + 28 ≤ length bytes
  pub data_is : data_len ≡ footer.offset
  pub index_is : index ≡ record { period = footer.period; bytes = slice_range bytes data_len (length bytes - 28) }
  pub version_is : version ≡ footer.doc_store_version

-- These are the numbers of the store's file, and the rows of the layer above those that they say where they lie.
pub record IsOutline (bytes : List ℕ) (s : IsSomeStore bytes) (head : StoreHead) (rows : List Row) : Type 0 where
  pub data_is : head.data_len ≡ length (data_of s.blocks)
  pub period_is : head.period ≡ s.period
  pub within : head.lower.height ≤ digit_count s.period (length (checkpoints_of s.blocks))
  pub marks : AreMarksOf s.period (index_part s.period (checkpoints_of s.blocks)) (checkpoints_of s.blocks) head.lower
  pub are : AreRowsAbove s.period head.lower.height (checkpoints_of s.blocks) rows

-- The block that begins at this byte and has these bytes is the one that has the document.
pub record IsBlockSlice (bytes : List ℕ) (s : IsSomeStore bytes) (id first end start : ℕ)
    (block : List ℕ) : Type 0 where
  pub checkpoint : Checkpoint
  pub seeks : first_past (checkpoints_of s.blocks) id ≡ Some checkpoint
  pub first_is : first ≡ checkpoint.doc_range.start
  pub end_is : end ≡ checkpoint.doc_range.end
  pub start_is : start ≡ checkpoint.byte_range.start
  pub block_is : block ≡ slice_range bytes checkpoint.byte_range.start checkpoint.byte_range.end

-- the refusals of a document: there is none, it is damaged, or the index is found damaged on the way to it
abbrev pub RefusesOne : ℕ → StoreError → Type 0
RefusesOne id e = (e ≡ InvalidArgument id) ⊎ (e ≡ DamagedDocument id) ⊎ (e ≡ BadIndex)

-- the same where the document is read, too: its bytes are no document of the type, or memory runs out
abbrev pub RefusesReading : ℕ → StoreError → Type 0
RefusesReading id e = RefusesOne id e ⊎ (e ≡ BadDocument) ⊎ (e ≡ Memory)

-- ---- iterations over blocks

-- What is left of an iteration over blocks, as callers see it: the document with which the next block begins, and the
-- checkpoints of the blocks, as the index has them. It has failed where the index was found damaged.
pub record BlocksLeft : Type 0 where
  pub bytes : List ℕ
  pub data_len : ℕ
  pub next : ℕ
  pub checkpoints : List Checkpoint
  pub failed : Bool

-- The block is a part of these bytes. It begins with this document, and has at least one.
pub record IsSliceFrom (bytes : List ℕ) (next : ℕ) (b : BlockSlice) : Type 0 where
  pub first_is : b.first ≡ next
  pub some : b.first < b.end
  pub within : b.start + length b.bytes.now ≤ length bytes
  pub fits : b.start + length b.bytes.now < 2 ^ 64
  pub part_is : b.bytes.now ≡ slice_range bytes b.start (b.start + length b.bytes.now)

-- The checkpoint is that of a block in the data, which begins with this document and has at least one.
pub record ContinuesAt (next data_len : ℕ) (c : Checkpoint) : Type 0 where
  pub docs_start : c.doc_range.start ≡ next
  pub some : next < c.doc_range.end
  pub order : c.byte_range.start ≤ c.byte_range.end
  pub within : c.byte_range.end ≤ data_len

-- The block has the documents of the checkpoint, and lies where it says.
pub record IsBlockAt (c : Checkpoint) (b : BlockSlice) : Type 0 where
  pub first_is : b.first ≡ c.doc_range.start
  pub end_is : b.end ≡ c.doc_range.end
  pub start_is : b.start ≡ c.byte_range.start
  pub bytes_end_is : b.start + length b.bytes.now ≡ c.byte_range.end

-- What comes next in any bytes, and what is left then: the block of the next checkpoint, if that follows; else the
-- refusal of the index, after which there is none.
abbrev pub GivesPart : BlocksLeft → Option (Result BlockSlice StoreError) → BlocksLeft → Type 0
GivesPart left None left' = ((left.failed ≡ true) ⊎ (left.checkpoints ≡ [])) × (left' ≡ left)
GivesPart left (Some (Ok b)) left' =
    IsSliceFrom left.bytes left.next b × (left.failed ≡ false)
    × ((c : Checkpoint) × (left.checkpoints ≡ c ∷ left'.checkpoints) × IsBlockAt c b)
    × (left' ≡ record left { next = b.end; checkpoints = left'.checkpoints })
GivesPart left (Some (Err e)) left' =
    (e ≡ BadIndex) × (left.failed ≡ false)
    × ((c : Checkpoint) × (left.checkpoints ≡ c ∷ left'.checkpoints) × (ContinuesAt left.next left.data_len c → ⊥))
    × (left' ≡ record left { failed = true; checkpoints = left'.checkpoints })

-- The iteration stands between two blocks of the store, and has those of the checkpoints that are left.
pub record AreLeft (bytes : List ℕ) (s : IsSomeStore bytes) (left : BlocksLeft) : Type 0 where
  pub before : List Checkpoint
  pub parts : checkpoints_of s.blocks ≡ before ++ left.checkpoints
  pub ended : docs_end 0 before ≡ left.next
  pub bytes_is : left.bytes ≡ bytes
  pub data_is : left.data_len ≡ length (data_of s.blocks)
  pub well : left.failed ≡ false

-- The next block of the store; none after the last, and no refusal.
abbrev pub GivesBlock : (bytes : List ℕ) → IsSomeStore bytes → ℕ → Option (Result BlockSlice StoreError) → Type 0
GivesBlock bytes s next None = next ≡ count_of_store bytes s
GivesBlock bytes s next (Some (Ok b)) =
    (id : ℕ) → b.first ≤ id → id < b.end → IsBlockSlice bytes s id b.first b.end b.start b.bytes.now
GivesBlock bytes s next (Some (Err e)) = ⊥

-- ---- iterations over documents

-- An iteration stands before the next document, which is in this block or in those that are left.
pub record IsAmid (bytes : List ℕ) (s : IsSomeStore bytes) (next first end : ℕ) (block : List ℕ)
    (left : BlocksLeft) : Type 0 where
  pub are_left : AreLeft bytes s left
  pub ends : left.next ≡ end
  pub above : first ≤ next
  pub below : next ≤ end
  pub goes_on : (id : ℕ) → next ≤ id → id < end → slice_get (slots s.blocks) id ≡ Some (slot block (id - first))

-- The next of the documents, or its refusal; none after the last.
abbrev pub GivesStored : (bytes : List ℕ) → IsSomeStore bytes → ℕ → Option (Result (Bor (List ℕ)) StoreError) → ℕ
    → Type 0
GivesStored bytes s next None next' = (next ≡ count_of_store bytes s) × (next' ≡ next)
GivesStored bytes s next (Some item) next' =
    (next < count_of_store bytes s) × (given item ≡ document_in bytes s next) × (next' ≡ next + 1)
