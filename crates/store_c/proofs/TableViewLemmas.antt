-- What the table of a store tells is so of the store.
use Rattle.std.proofs.Common.{◌≡◌, ℕ, ◌+◌, ◌-◌, ◌≤◌, List, length, map, Option, Some, None, refl, sym, ap, ◌∙◌, arith}
use Rattle.std.specs.Prelude.{slice_range}
use Rattle.std.proofs.lemmas.Option.{slice_get_past}
use Rattle.store_base.proofs.ListLemmas.{length-slice}
use Rattle.layered_index.specs.declared.checkpoint.Checkpoint.{Checkpoint}
use Rattle.layered_index.specs.Checkpoint.{IsInLineFrom, docs_end, first_past}
use Rattle.store_base.proofs.Ranges.{part_of_part}
use Rattle.store_format.specs.Block.{Slot, slot, doc}
use Rattle.store_format.specs.Slots.{slots}
use Rattle.store_format.specs.StoreFile.{checkpoints_of}
use Rattle.store_format.proofs.StoreLemmas.{checkpoints_cover}
use Rattle.store_reader.specs.Opening.{IsSomeStore}
use Rattle.store_reader.proofs.RefusedLemmas.{parts_of}
use Rattle.store_reader.proofs.SeekLemmas.{IsWithin, within}
use Rattle.store_reader.proofs.StoreSliceLemmas.{block_is_of, block_within as within_data, count_stored, none_stored}
use Rattle.store_reader.proofs.PlaceLemmas.{seek_stays}
use Rattle.layered_index.specs.declared.row.Row.{Row}
use Rattle.store_c.specs.declared.place.Place.{Place}
use Rattle.layered_index.specs.Rows.{ends_of, ends_in}
use Rattle.store_c.specs.Calls.{IsTableOf, HasSlot, IsPlace, IsTableBlock}

-- ---- the documents of a store

module _ (file : List ℕ) (s : IsSomeStore file) where
  abbrev cs : List Checkpoint
  cs = checkpoints_of s.blocks

  pub in_line : IsInLineFrom 0 0 cs
  in_line = (checkpoints_cover s.blocks s.store.blocks).in_line

  -- where the block that a seek finds lies
  pub block_within : (id : ℕ) (c : Checkpoint) → first_past cs id ≡ Some c → IsWithin 0 0 cs id c
  block_within id c seeks = within 0 0 cs id c (omega arith) in_line seeks

  pub block_ends : (id : ℕ) (c : Checkpoint) → first_past cs id ≡ Some c → c.byte_range.end ≤ length file
  block_ends id c seeks = omega (arith, within_data file s id c seeks, (parts_of file s).size)

  -- the slot of a document is that of its place in the block that a seek finds
  pub has : (id : ℕ) (c : Checkpoint) (x : Slot) → first_past cs id ≡ Some c → slot (slice_range file c.byte_range.start c.byte_range.end) (id - c.doc_range.start) ≡ x → HasSlot file id (Some x)
  has id c x seeks is = let w = block_within id c seeks in record { store = s; slot = block_is_of file s id c seeks id w.from w.to ∙ ap Some is }

  -- there is none where a seek finds none
  pub has_none : (id : ℕ) → first_past cs id ≡ None → HasSlot file id None
  has_none id seeks = record { store = s; slot = slice_get_past (slots s.blocks) id (none_stored file s id seeks) }

  -- there is none at or past the count
  pub has_past : (id : ℕ) → docs_end 0 cs ≤ id → HasSlot file id None
  has_past id past = record { store = s; slot = slice_get_past (slots s.blocks) id (omega (arith, count_stored file s)) }

-- ---- places in any bytes, by any table

-- what a seek in the table finds is what one in the store's checkpoints does
pub sought : (file : List ℕ) (table : List Row) (id : ℕ) (o : Option Checkpoint) → ((cs : List Checkpoint) → ends_in table ≡ map ends_of cs → IsInLineFrom 0 0 cs → o ≡ first_past cs id)
    → (known : IsTableOf file table) → first_past (checkpoints_of known.store.blocks) id ≡ o
sought file table id o e known = sym (e _ known.rows (in_line file known.store))

-- what a seek finds is the block of each of its documents
pub table_block : (file : List ℕ) (table : List Row) (id : ℕ) (c : Checkpoint) → c.byte_range.start ≤ c.byte_range.end → c.byte_range.end ≤ length file
    → ((known : IsTableOf file table) → first_past (checkpoints_of known.store.blocks) id ≡ Some c) → IsTableBlock file table c
table_block file table id c order end seeks = record {
  order = order;
  within = end;
  sought = λ known k from to. seek_stays 0 0 (checkpoints_of known.store.blocks) id k c (in_line file known.store) (seeks known) from to;
}

-- the place of a document in the file, from that in its block
pub lies : (file : List ℕ) (table : List Row) (id from to : ℕ) (c : Checkpoint) (p : Place) → ((known : IsTableOf file table) → first_past (checkpoints_of known.store.blocks) id ≡ Some c)
    → c.byte_range.start ≤ c.byte_range.end → c.byte_range.end ≤ length file
    → p.start ≡ c.byte_range.start + from → p.len ≡ to - from → from ≤ to → to ≤ length (slice_range file c.byte_range.start c.byte_range.end)
    → slot (slice_range file c.byte_range.start c.byte_range.end) (id - c.doc_range.start) ≡ doc (slice_range (slice_range file c.byte_range.start c.byte_range.end) from to)
    → IsPlace file table id p
lies file table id from to c p seeks order' end start len order inside is =
    let block = slice_range file c.byte_range.start c.byte_range.end in
    let size = length-slice file c.byte_range.start c.byte_range.end end in
    let last : p.start + p.len ≡ c.byte_range.start + to = omega arith in
    let part : slice_range file (c.byte_range.start + from) (c.byte_range.start + to) ≡ slice_range block from to
    = part_of_part file block c.byte_range.start c.byte_range.end from to refl order' end order inside in
    record {
      within = omega (arith, size);
      document = λ known. has file known.store id c _ (seeks known) (is ∙ ap doc (sym ((λ i. slice_range file (start i) (last i)) ∙ part)));
    }
