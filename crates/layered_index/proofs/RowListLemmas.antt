-- A list in line is told by where it begins and where each checkpoint ends.
use Rattle.std.proofs.Common.{◌≡◌, ℕ, zero, suc, ◌<◌, List, [], ◌∷◌, length, map, Some, refl, sym, ap, arith}
use Rattle.std.specs.Prelude.{slice_get, slice_index_or}
use Rattle.layered_index.specs.declared.checkpoint.Checkpoint.{Checkpoint}
use Rattle.layered_index.specs.declared.row.Row.{Row}
use Rattle.layered_index.specs.declared.row.RowEnd.{RowEnd}
use Rattle.layered_index.specs.Checkpoint.{checkpoint, IsInLineFrom}
use Rattle.layered_index.specs.Rows.{end_of, ends_in, ends_of, start_in, checkpoints_from}
use Rattle.layered_index.proofs.CheckpointLemmas.{same_checkpoint}

pub from_ends : (start : RowEnd) (cs : List Checkpoint) → IsInLineFrom start.end_doc start.end_byte cs → checkpoints_from start (map ends_of cs) ≡ cs
from_ends start [] h = refl
from_ends start (c ∷ cs) h =
    let here : checkpoint start.end_doc c.doc_range.end start.end_byte c.byte_range.end ≡ c = same_checkpoint _ c (sym h.0) refl (sym h.1) refl in
    λ i. here i ∷ from_ends (ends_of c) cs h.3 i

pub length-from : (start : RowEnd) (rows : List Row) → length (checkpoints_from start (ends_in rows)) ≡ length rows
length-from start [] = refl
length-from start (row ∷ rows) = ap suc (length-from (end_of row) rows)

-- the one at a position
pub row_from : (start from : RowEnd) (rows : List Row) (at : ℕ) (d : Row) → from ≡ start_in start (ends_in rows) at → at < length rows
    → let end = end_of (slice_index_or rows at d) in slice_get (checkpoints_from start (ends_in rows)) at ≡ Some (checkpoint from.end_doc end.end_doc from.end_byte end.end_byte)
row_from start from [] at d is lt = absurd (omega arith)
row_from start from (row ∷ rows) zero d is lt = λ i. Some (checkpoint (sym is i).end_doc row.end_doc (sym is i).end_byte row.end_byte)
row_from start from (row ∷ rows) (suc at) d is lt = row_from (end_of row) from rows at d is (omega arith)
