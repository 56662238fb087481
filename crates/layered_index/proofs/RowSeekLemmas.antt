-- What looks at rows tell of where a seek's answer lies.
use Rattle.std.proofs.Common.{◌≡◌, ℕ, zero, suc, ◌+◌, ◌<◌, ◌≤◌, List, [], ◌∷◌, Some, length, map, get_or, sym, ap, ◌∙◌, subst, arith}
use Rattle.std.specs.Prelude.{slice_get}
use Rattle.std.proofs.lemmas.Bool.{lt-ltb, le-ltb}
use Rattle.std.proofs.lemmas.List.{length-map}
use Rattle.layered_index.specs.declared.checkpoint.Checkpoint.{Checkpoint}
use Rattle.layered_index.specs.Checkpoint.{IsInLineFrom, first_past}
use Rattle.layered_index.proofs.LineLemmas.{in_line_from}
use Rattle.layered_index.specs.Seeking.{EndsPast, LiesBetween}
use Rattle.layered_index.proofs.HalvingLemmas.{first_at, none_up_to, past_end}
use Rattle.layered_index.specs.declared.row.Row.{Row}
use Rattle.layered_index.specs.declared.row.RowEnd.{RowEnd}
use Rattle.layered_index.specs.Rows.{end_of, ends_in, ends_of}
use Rattle.layered_index.proofs.RowLemmas.{row_is}

module _ (rows : List Row) (cs : List Checkpoint) (is : ends_in rows ≡ map ends_of cs) (target : ℕ) where
  pub size : length rows ≡ length cs
  size = sym (length-map rows end_of) ∙ ap length is ∙ length-map cs ends_of

  -- it is in the rows, or past its end
  pub anywhere : LiesBetween cs target 0 (length rows)
  anywhere = record { order = omega arith; within = omega (arith, size); before = λ i c lt e. absurd (omega arith); past = past_end cs target (length rows) (omega (arith, size)) }

  -- no later than a row that ends past the target
  pub up_to_here : (low high at : ℕ) (d : Row) → LiesBetween cs target low high → low ≤ at → at < length rows → target < (get_or rows at d).end_doc → LiesBetween cs target low at
  up_to_here low high at d known order lt past =
      let row = row_is rows cs at d is lt in
      record {
        order = order;
        within = omega (arith, size);
        before = known.before;
        past = subst (EndsPast target) (sym row.1) (omega (arith, past, ap (λ (e : RowEnd). e.end_doc) row.2));
      }

  -- past one that doesn't
  pub from_the_next : (low high at : ℕ) (d : Row) → IsInLineFrom 0 0 cs → LiesBetween cs target low high → at < high → at < length rows → (get_or rows at d).end_doc ≤ target
      → LiesBetween cs target (at + 1) high
  from_the_next low high at d line known order lt before =
      let row = row_is rows cs at d is lt in
      record {
        order = omega arith;
        within = known.within;
        before = none_up_to cs target at row.0 (in_line_from 0 0 cs line) row.1 (omega (arith, before, ap (λ (e : RowEnd). e.end_doc) row.2));
        past = known.past;
      }

-- a checkpoint that has a document is the first past it
begins_later : (doc byte : ℕ) (cs : List Checkpoint) (at : ℕ) (c : Checkpoint) → IsInLineFrom doc byte cs → slice_get cs at ≡ Some c → doc ≤ c.doc_range.start
begins_later doc byte [] at c line is = absurd cc
begins_later doc byte (x ∷ cs) zero c line is = let same : x ≡ c = cc in omega (arith, line.0, ap (λ (y : Checkpoint). y.doc_range.start) same)
begins_later doc byte (x ∷ cs) (suc at) c line is = omega (arith, begins_later x.doc_range.end x.byte_range.end cs at c line.3 is, line.0, line.2.doc_order)

pub first_of : (doc byte : ℕ) (cs : List Checkpoint) (target at : ℕ) (c : Checkpoint) → IsInLineFrom doc byte cs → slice_get cs at ≡ Some c → c.doc_range.start ≤ target → target < c.doc_range.end
    → first_past cs target ≡ Some c
first_of doc byte [] target at c line is from to = absurd cc
first_of doc byte (x ∷ cs) target zero c line is from to =
    let same : x ≡ c = cc in
    rw (lt-ltb target x.doc_range.end (omega (arith, to, ap (λ (y : Checkpoint). y.doc_range.end) same))) (ap Some same)
first_of doc byte (x ∷ cs) target (suc at) c line is from to =
    let later = begins_later x.doc_range.end x.byte_range.end cs at c line.3 is in
    rw (le-ltb target x.doc_range.end (omega (arith, later, from))) (first_of x.doc_range.end x.byte_range.end cs target at c line.3 is from to)

-- where nothing is left between, it is found
pub found_there : (cs : List Checkpoint) (target low high : ℕ) → low ≡ high → LiesBetween cs target low high → slice_get cs low ≡ first_past cs target
found_there cs target low high met k = ap (slice_get cs) met ∙ sym (first_at cs target high (λ i c lt e. k.before i c (omega (arith, met)) e) k.past)
