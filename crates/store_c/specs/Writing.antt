-- What the caller's memory has of a store that is written, and what the calls make of it.
use Rattle.std.specs.Prelude.{◌≡◌, ◌≢◌, ◌⊎◌, ◌↔◌, ℕ, ◌+◌, ◌-◌, ◌*◌, ◌<◌, ◌≤◌, ◌^◌, List, [], ◌∷◌, ◌++◌}
use Rattle.std.specs.Prelude.{length, take, map, None}
use Rattle.std.specs.List.{flat_map, concat}
use Rattle.layered_index.specs.declared.checkpoint.Checkpoint.{Checkpoint}
use Rattle.layered_index.specs.Checkpoint.{checkpoint, bytes_end, IsInLineFrom}
use Rattle.layered_index.specs.Layers.{Index, index_part}
use Rattle.store_base.specs.Outputs.{Termination}
use Rattle.store_base.specs.Serialize.{fixed}
use Rattle.store_format.specs.Block.{block, starts_from}
use Rattle.store_format.specs.Footer.{footer}
use Rattle.store_format.specs.Slots.{slots}
use Rattle.store_format.specs.StoreFile.{StoreBlock, IsStore, data_of, checkpoints_of, file, reserved_of}
use Rattle.store_format.specs.declared.kinds.Compressor.{Compressor}
use Rattle.store_reader.specs.Opening.{IsSomeStore}
use Rattle.docstore.specs.BlockOutput.{new_output}
use Rattle.docstore.specs.Writer.{Writing, IsStoreWriter, IsTooLarge, new_writing, num_docs, flushed}
use Rattle.docstore.specs.Writer.{with_document}
use Rattle.docstore.specs.Stacking.{with_store}
use Rattle.layered_index.specs.declared.row.Row.{Row}
use Rattle.layered_index.specs.declared.row.RowEnd.{RowEnd}
use Rattle.store_c.specs.declared.writer.Writer.{Writer}
use Rattle.store_c.specs.declared.writer_refusal.WriterRefusal.{WriterRefusal}
use Rattle.store_c.specs.declared.writer_refusal.WriterRefusal.TheVariants.{NoMemory, OldVersion, BlockTooLarge}
use Rattle.store_c.specs.declared.writer_refusal.WriterRefusal.TheVariants.{TooManyDocs, NoRoom, OpenBlock}
use Rattle.store_c.specs.declared.writer_refusal.WriterRefusal.TheVariants.{OtherWriter, BadPeriod}
use Rattle.layered_index.specs.Rows.{ends_of, ends_in, start_in}

-- ---- memory

-- a writer's numbers, where the documents of its open block begin, and the table of its blocks
pub record Memory : Type 0 where
  pub writer : Writer
  pub starts : List ℕ
  pub table : List Row

abbrev pub memory : Writer → List ℕ → List Row → Memory
memory writer starts table = record { writer = writer; starts = starts; table = table }

-- It is the memory of a writer in this state, once these bytes were written.
pub record Holds (m : Memory) (text : List ℕ) (w : Writing) : Type 0 where
  pub sound : IsStoreWriter w
  pub works : w.output.failure ≡ None
  pub alone : w.output.before ≡ []
  pub fits : length (block w.pending) < 2 ^ 32
  pub block_size : m.writer.block_size ≡ w.block_size
  pub docs : m.writer.docs ≡ length w.pending
  pub bytes : m.writer.bytes ≡ length (concat w.pending)
  pub starts : take (length w.pending) m.starts ≡ starts_from 0 w.pending
  pub blocks : m.writer.blocks ≡ length w.output.finished
  pub rows : take (length w.output.finished) (ends_in m.table) ≡ map ends_of (checkpoints_of w.output.finished)
  pub written : text ≡ data_of w.output.finished ++ concat w.pending

-- ---- what the calls make of it

-- whatever else it has, it is the memory of a writer of nothing yet
abbrev pub Begins : ℕ → Writer → Type 0
Begins block_size writer =
    (starts : List ℕ) (table : List Row) (compressor : Compressor) (period : ℕ) (termination : Termination)
    (failures : ℕ) → 2 ≤ period → period ≤ 64 → Holds (memory writer starts table) []
    (new_writing block_size (new_output compressor period [] termination failures))

-- this many numbers, four bytes each
abbrev pub bytes_of : ℕ → List ℕ → List ℕ
bytes_of count starts = flat_map (fixed 4) (take count starts)

-- A document of this length is put, once it is written and this many starts after it.
abbrev pub PutsDocument : ℕ → ℕ → Memory → Memory → Type 0
PutsDocument len count old new =
    (written : List ℕ) (w : Writing) (document : List ℕ) → length document ≡ len → Holds old written w
    → Holds new (written ++ document ++ bytes_of count new.starts) (with_document w document)

-- The open block is ended, once this many starts are written.
abbrev pub EndsBlock : ℕ → Memory → Memory → Type 0
EndsBlock count old new =
    (written : List ℕ) (w : Writing) → Holds old written w
    → Holds new (written ++ bytes_of count new.starts) (flushed w)

-- The blocks of a store are put after the others, once its data is written.
abbrev pub PutsBlocks : List StoreBlock → Writer → List Row → Writer → List Row → Type 0
PutsBlocks bs old_writer old_table new_writer new_table =
    (starts : List ℕ) (written : List ℕ) (w : Writing) → Holds (memory old_writer starts old_table) written w
    → Holds (memory new_writer starts new_table) (written ++ data_of bs) (with_store w bs)

-- These bytes are the file of a store that can be stacked, whose data are the first of them.
pub record PutsStore (bytes : List ℕ) (len count : ℕ) (old_writer : Writer) (old_table : List Row)
    (new_writer : Writer) (new_table : List Row) : Type 0 where
  pub store : IsSomeStore bytes
  pub version : store.version ≢ 1
  pub front : take len bytes ≡ data_of store.blocks
  pub within : len ≤ length bytes
  pub blocks : count ≡ length (checkpoints_of store.blocks)
  pub puts : PutsBlocks store.blocks old_writer old_table new_writer new_table

-- These bytes are the file of the writer's blocks, and no document waits.
pub record IsFileOf (period : ℕ) (bytes : List ℕ) (w : Writing) : Type 0 where
  pub pending : w.pending ≡ []
  pub file : bytes ≡ file period 3 w.output.finished
  pub store : IsStore period bytes 3 w.output.finished

-- These bytes are the index and the footer of blocks that end so.
pub record IsEndOf (period : ℕ) (ends : List RowEnd) (end : List ℕ) : Type 0 where
  pub checkpoints : List Checkpoint
  pub in_line : IsInLineFrom 0 0 checkpoints
  pub ends_are : ends ≡ map ends_of checkpoints
  pub is : end ≡ index_part period checkpoints ++ footer 3 (bytes_end 0 checkpoints) 0 (reserved_of period 3)

-- After what was written these bytes make the file.
abbrev pub EndsFile : ℕ → List ℕ → Writer → List Row → Type 0
EndsFile period end writer table =
    (starts : List ℕ) (written : List ℕ) (w : Writing) → Holds (memory writer starts table) written w
    → IsFileOf period (written ++ end) w

-- What makes the file after what was written has this length: the index and the footer of the writer's rows, where no
-- block is open.
pub record HasEnd (period len : ℕ) (writer : Writer) (table : List Row) : Type 0 where
  pub least : 2 ≤ period
  pub most : period ≤ 64
  pub none_open : writer.docs ≡ 0
  pub rows : writer.blocks ≤ length table
  pub end : List ℕ
  pub is : IsEndOf period (take writer.blocks (ends_in table)) end
  pub size : length end ≡ len
  pub ends : EndsFile period end writer table

-- ---- refusals

-- the number that C is given
abbrev pub writer_number : WriterRefusal → ℕ
writer_number NoMemory = 10
writer_number OldVersion = 11
writer_number BlockTooLarge = 13
writer_number TooManyDocs = 14
writer_number BadPeriod = 16
writer_number NoRoom = 32
writer_number OpenBlock = 34
writer_number OtherWriter = 35

-- The block of the open documents with one of this length has no place in 32 bits.
abbrev pub IsTooLong : ℕ → Memory → Type 0
IsTooLong len m =
    (written : List ℕ) (w : Writing) (document : List ℕ) → length document ≡ len → Holds m written w
    → IsTooLarge w document

-- There is no number left for a document.
abbrev pub HasNoNumber : Memory → Type 0
HasNoNumber m = (written : List ℕ) (w : Writing) → Holds m written w → num_docs w ≡ 2 ^ 32 - 1

-- It is no writer's memory.
abbrev pub IsOther : Writer → List Row → Type 0
IsOther writer table =
    (starts : List ℕ) (written : List ℕ) (w : Writing) → Holds (memory writer starts table) written w → ⊥

-- The documents of both can't be numbered.
abbrev pub HasTooManyWith : List StoreBlock → Writer → List Row → Type 0
HasTooManyWith bs writer table =
    (starts : List ℕ) (written : List ℕ) (w : Writing) → Holds (memory writer starts table) written w
    → 2 ^ 32 ≤ num_docs w + length (slots bs)

-- A block that begins here and has this many documents of this many bytes ends here, and has its place in 32 bits.
pub record EndsBlockAt (start : RowEnd) (docs bytes : ℕ) (end : RowEnd) : Type 0 where
  pub doc : end.end_doc ≡ start.end_doc + docs
  pub byte : end.end_byte ≡ start.end_byte + (bytes + 4 * docs + 4)
  pub few_docs : start.end_doc + docs < 2 ^ 32
  pub few_bytes : bytes + 4 * docs + 4 < 2 ^ 32
  pub place : end.end_byte < 2 ^ 64

-- where the open block begins
abbrev pub open_start : Memory → RowEnd
open_start m = start_in (record { end_doc = 0; end_byte = 0 }) (ends_in m.table) m.writer.blocks

-- The open block ends nowhere.
abbrev pub HasNoEnd : Memory → Type 0
HasNoEnd m = (end : RowEnd) → EndsBlockAt (open_start m) m.writer.docs m.writer.bytes end → ⊥

-- There is no room for this many more starts, or for one more row.
abbrev pub LacksRoom : ℕ → Memory → Type 0
LacksRoom more m = (length m.starts < m.writer.docs + more) ⊎ (length m.table ≤ m.writer.blocks)

-- There is room for this many more starts, and for one more row.
abbrev pub HasRoom : ℕ → Memory → Type 0
HasRoom more m = (m.writer.docs + more ≤ length m.starts) × (m.writer.blocks < length m.table)

-- why a document of this length isn't put: the first of the causes
abbrev pub RefusesLength : ℕ → Memory → WriterRefusal → Type 0
RefusesLength len m NoRoom = LacksRoom 2 m
RefusesLength len m TooManyDocs = HasRoom 2 m × HasNoNumber m
RefusesLength len m BlockTooLarge = HasRoom 2 m × IsTooLong len m
RefusesLength len m _ = ⊥

-- There is room for a document of this length, a number for it, and a place in 32 bits for its block.
pub record TakesLength (len : ℕ) (m : Memory) : Type 0 where
  pub room : HasRoom 2 m
  pub number : (written : List ℕ) (w : Writing) → Holds m written w → num_docs w < 2 ^ 32 - 1
  pub place : (written : List ℕ) (w : Writing) (document : List ℕ) → length document ≡ len → Holds m written w
      → length (block (w.pending ++ document ∷ [])) < 2 ^ 32

-- why the open block isn't ended: the first of the causes
abbrev pub RefusesBlock : Memory → WriterRefusal → Type 0
RefusesBlock m NoRoom = (0 < m.writer.docs) × LacksRoom 1 m
RefusesBlock m OtherWriter = (0 < m.writer.docs) × HasRoom 1 m × HasNoEnd m
RefusesBlock m _ = ⊥

-- There is no open block; or there is room for its table and one more row, and a place at which it ends.
abbrev pub TakesBlock : Memory → Type 0
TakesBlock m = (m.writer.docs ≡ 0)
    ⊎ (HasRoom 1 m × ((end : RowEnd) × EndsBlockAt (open_start m) m.writer.docs m.writer.bytes end))

-- These bytes are the file of a store, and this is so of its version and its blocks.
pub record RefusesStore (bytes : List ℕ) (Why : ℕ → List StoreBlock → Type 0) : Type 0 where
  pub store : IsSomeStore bytes
  pub why : Why store.version store.blocks

-- The number comes exactly where the bytes are the file of a store, and this is so of its version and its blocks.
abbrev pub ComesFor : ℕ → ℕ → List ℕ → (ℕ → List StoreBlock → Type 0) → Type 0
ComesFor number result bytes Why = (result ≡ number) ↔ RefusesStore bytes Why

-- A store of this version has its documents in no older form, and no block is open before them.
abbrev pub MayFollow : ℕ → Writer → Type 0
MayFollow version writer = (version ≢ 1) × (writer.docs ≡ 0)

-- The documents of both can be numbered.
abbrev pub HasNumbersWith : List StoreBlock → Writer → List Row → Type 0
HasNumbersWith bs writer table =
    (starts : List ℕ) (written : List ℕ) (w : Writing) → Holds (memory writer starts table) written w
    → num_docs w + length (slots bs) < 2 ^ 32

-- why the blocks of a store of this version aren't put after these: the first of the causes
abbrev pub RefusesBlocks : ℕ → List StoreBlock → Writer → List Row → WriterRefusal → Type 0
RefusesBlocks version bs writer table OldVersion = version ≡ 1
RefusesBlocks version bs writer table OpenBlock = (version ≢ 1) × (0 < writer.docs)
RefusesBlocks version bs writer table TooManyDocs = MayFollow version writer × HasTooManyWith bs writer table
RefusesBlocks version bs writer table OtherWriter = MayFollow version writer × IsOther writer table
RefusesBlocks version bs writer table NoRoom =
    MayFollow version writer × HasNumbersWith bs writer table
    × (length table < writer.blocks + length (checkpoints_of bs))
RefusesBlocks version bs writer table _ = ⊥

-- The blocks of a store of this version may follow these: they have numbers, and there is room for their rows.
pub record TakesBlocks (version : ℕ) (bs : List StoreBlock) (writer : Writer) (table : List Row) : Type 0 where
  pub may : MayFollow version writer
  pub numbers : HasNumbersWith bs writer table
  pub room : writer.blocks + length (checkpoints_of bs) ≤ length table

-- ---- blocks and their ends

-- where a block ends after this place
abbrev pub ends_after : RowEnd → Checkpoint → RowEnd
ends_after start c = record {
  end_doc = c.doc_range.end + start.end_doc;
  end_byte = c.byte_range.end + start.end_byte;
}

-- why there is no such place
abbrev pub RefusesEnd : RowEnd → ℕ → ℕ → WriterRefusal → Type 0
RefusesEnd start docs bytes TooManyDocs = 2 ^ 32 ≤ start.end_doc + docs
RefusesEnd start docs bytes BlockTooLarge =
    (start.end_doc + docs < 2 ^ 32)
    × ((2 ^ 32 ≤ bytes + 4 * docs + 4) ⊎ (2 ^ 64 ≤ start.end_byte + (bytes + 4 * docs + 4)))
RefusesEnd start docs bytes _ = ⊥

-- from the one end to the other
abbrev pub between : RowEnd → RowEnd → Checkpoint
between start end = checkpoint start.end_doc end.end_doc start.end_byte end.end_byte

-- the index of blocks that end so
pub record IndexesEnds (period : ℕ) (ends : List RowEnd) (index : Index) : Type 0 where
  pub period_is : index.period ≡ period
  pub ends_are : map ends_of index.checkpoints ≡ ends
  pub in_line : IsInLineFrom 0 0 index.checkpoints

-- why there is no index: no blocks end so, or memory ran out
abbrev pub RefusesIndex : List RowEnd → WriterRefusal → Type 0
RefusesIndex ends OtherWriter = (cs : List Checkpoint) → IsInLineFrom 0 0 cs → ends ≡ map ends_of cs → ⊥
RefusesIndex ends NoMemory = Unit {0}
RefusesIndex ends _ = ⊥
