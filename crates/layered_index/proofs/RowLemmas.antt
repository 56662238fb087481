-- What the rows of a layer tell of its checkpoints.
use Rattle.std.proofs.Common.{◌≡◌, ℕ, zero, suc, ◌<◌, ◌-◌, List, [], ◌∷◌, length, map, Some, refl, sym, ap, ◌∙◌, subst}
use Rattle.std.proofs.Common.{arith}
use Rattle.std.specs.Prelude.{slice_get, slice_index_or}
use Rattle.std.proofs.lemmas.List.{length-map}
use Rattle.layered_index.specs.declared.checkpoint.Checkpoint.{Checkpoint}
use Rattle.layered_index.specs.Checkpoint.{checkpoint, IsInLineFrom, docs_end}
use Rattle.layered_index.proofs.CheckpointLemmas.{same_checkpoint}
use Rattle.layered_index.specs.declared.row.Row.{Row}
use Rattle.layered_index.specs.declared.row.RowEnd.{RowEnd}
use Rattle.layered_index.specs.Rows.{end_of, ends_in, ends_of, start_in}

-- where the first checkpoint begins
abbrev pub zero_row : RowEnd
zero_row = record { end_doc = 0; end_byte = 0 }

abbrev no_rows : List RowEnd
no_rows = []

no_row : (at : ℕ) (b : RowEnd) → slice_get no_rows at ≡ Some b → ⊥
no_row zero b e = cc
no_row (suc at) b e = cc

-- where the checkpoint after another begins
pub starts_after : (start : RowEnd) (rows : List Row) (at : ℕ) (d : Row) → at < length rows → start_in start (ends_in rows) (suc at) ≡ end_of (slice_index_or rows at d)
starts_after start [] at d lt = absurd (omega arith)
starts_after start (row ∷ rows) zero d lt = refl
starts_after start (row ∷ rows) (suc at) d lt = starts_after (end_of row) rows at d (omega arith)

-- a checkpoint in line begins where the one before it ends
begins_there : (doc byte : ℕ) (cs : List Checkpoint) (at : ℕ) (c : Checkpoint) → IsInLineFrom doc byte cs → slice_get cs at ≡ Some c
    → let start = start_in (record { end_doc = doc; end_byte = byte }) (map ends_of cs) at in checkpoint start.end_doc c.doc_range.end start.end_byte c.byte_range.end ≡ c
begins_there doc byte [] at c r is = absurd cc
begins_there doc byte (x ∷ cs) zero c r is =
    let same : x ≡ c = cc in
    subst (λ (y : Checkpoint). checkpoint doc y.doc_range.end byte y.byte_range.end ≡ y) same (same_checkpoint _ x (sym r.0) refl (sym r.1) refl)
begins_there doc byte (x ∷ cs) (suc at) c r is = begins_there x.doc_range.end x.byte_range.end cs at c r.3 is

-- the checkpoint of a row
pub row_is : (rows : List Row) (cs : List Checkpoint) (at : ℕ) (d : Row) → ends_in rows ≡ map ends_of cs → at < length rows
    → (c : Checkpoint) × (slice_get cs at ≡ Some c) × (end_of (slice_index_or rows at d) ≡ ends_of c)
row_is [] cs at d is lt = absurd (omega arith)
row_is (row ∷ rows) [] at d is lt = absurd cc
row_is (row ∷ rows) (c ∷ cs) zero d is lt = (c, refl, cc)
row_is (row ∷ rows) (c ∷ cs) (suc at) d is lt = let rest : ends_in rows ≡ map ends_of cs = cc in row_is rows cs at d rest (omega arith)

-- it is what its row and the one before tell
pub row_tells : (rows : List Row) (cs : List Checkpoint) (at : ℕ) (d : Row) (start : RowEnd) → ends_in rows ≡ map ends_of cs → IsInLineFrom 0 0 cs → at < length rows
    → start ≡ start_in zero_row (ends_in rows) at → let end = end_of (slice_index_or rows at d) in Some (checkpoint start.end_doc end.end_doc start.end_byte end.end_byte) ≡ slice_get cs at
row_tells rows cs at d start is line lt from =
    let row = row_is rows cs at d is lt in
    let from' : start ≡ start_in zero_row (map ends_of cs) at = from ∙ ap (λ (ends : List RowEnd). start_in zero_row ends at) is in
    (λ i. Some (checkpoint (from' i).end_doc (row.2 i).end_doc (from' i).end_byte (row.2 i).end_byte))
    ∙ ap Some (begins_there 0 0 cs at row.0 line row.1) ∙ sym row.1

-- the last checkpoint ends after the last document
pub last_ends : (doc : ℕ) (cs : List Checkpoint) (at : ℕ) (b : RowEnd) → at ≡ length cs - 1 → slice_get (map ends_of cs) at ≡ Some b → docs_end doc cs ≡ b.end_doc
last_ends doc [] at b e is = absurd (no_row at b is)
last_ends doc (c ∷ []) zero b e is = let same : ends_of c ≡ b = cc in ap (λ (x : RowEnd). x.end_doc) same
last_ends doc (c ∷ []) (suc at) b e is = absurd (omega arith)
last_ends doc (c ∷ x ∷ cs) zero b e is = absurd (omega arith)
last_ends doc (c ∷ x ∷ cs) (suc at) b e is = last_ends c.doc_range.end (x ∷ cs) at b (omega arith) is

pub docs_of_is : (rows : List Row) (cs : List Checkpoint) (b : Row) → ends_in rows ≡ map ends_of cs → slice_get rows (length rows - 1) ≡ Some b → b.end_doc ≡ docs_end 0 cs
docs_of_is rows cs b is last =
    let size : length rows ≡ length cs = sym (length-map rows end_of) ∙ ap length is ∙ length-map cs ends_of in
    sym (last_ends 0 cs (length rows - 1) (end_of b) (omega arith) (ap (λ (ends : List RowEnd). slice_get ends (length rows - 1)) (sym is) ∙ got rows (length rows - 1) b last))
  where
    got : (rows : List Row) (at : ℕ) (b : Row) → slice_get rows at ≡ Some b → slice_get (ends_in rows) at ≡ Some (end_of b)
    got [] at b is = absurd cc
    got (row ∷ rows) zero b is = let same : row ≡ b = cc in ap (λ (x : Row). Some (end_of x)) same
    got (row ∷ rows) (suc at) b is = got rows at b is
