-- What is kept of checkpoints tells how many they are, where they end, and their rows.
use Rattle.std.proofs.Common.{◌≡◌, ℕ, zero, suc, ◌+◌, ◌-◌, nat_lt, true, false, cond, List, [], ◌∷◌, ◌++◌, length, map, set, take, drop, None, refl, sym, ◌∙◌, ap, arith, append_assoc}
use Rattle.std.specs.Prelude.{◌&&◌}
use Rattle.std.proofs.lemmas.Bool.{ltb-true, ltb-false}
use Rattle.std.proofs.lemmas.List.{append-nil, map-append, length-set, set_past, take_all, take_more_set, drop-set-lt}
use Rattle.layered_index.specs.declared.checkpoint.Checkpoint.{Checkpoint}
use Rattle.layered_index.specs.declared.row.Row.{Row}
use Rattle.layered_index.specs.declared.row.RowEnd.{RowEnd}
use Rattle.layered_index.specs.declared.tally.Tally.{Tally}
use Rattle.layered_index.specs.Covering.{goes_on, covered_to}
use Rattle.layered_index.specs.Rows.{end_of, ends_in, ends_of, row_of}
use Rattle.layered_index.specs.Tallies.{one_more, kept, covered_by}

pub count_kept : (t : Tally) (rows : List Row) (cs : List Checkpoint) → (kept (t, rows) cs).0.count ≡ t.count + length cs
count_kept t rows [] = omega arith
count_kept t rows (c ∷ cs) = omega (arith, count_kept (one_more t c) (set rows t.count (row_of (ends_of c))) cs)

pub covered_kept : (t : Tally) (rows : List Row) (cs : List Checkpoint) → covered_by (kept (t, rows) cs).0 ≡ cond t.covers (covered_to t.end.end_doc t.end.end_byte cs) None
covered_kept t rows [] = refl
covered_kept t rows (c ∷ cs) = covered_kept (one_more t c) (set rows t.count (row_of (ends_of c))) cs ∙ (elim t.covers as (λ covers.
    cond (covers && goes_on t.end.end_doc t.end.end_byte c) (covered_to c.doc_range.end c.byte_range.end cs) None ≡ cond covers (covered_to t.end.end_doc t.end.end_byte (c ∷ cs)) None) [
      | true ↦ refl
      | false ↦ refl
    ])

-- the rows after theirs stay
pub rest_kept : (t : Tally) (rows : List Row) (cs : List Checkpoint) (n : ℕ) → n ≡ t.count + length cs → drop n (kept (t, rows) cs).1 ≡ drop n rows
rest_kept t rows [] n e = refl
rest_kept t rows (c ∷ cs) n e =
    rest_kept (one_more t c) (set rows t.count (row_of (ends_of c))) cs n (omega (arith, e)) ∙ drop-set-lt n rows t.count (row_of (ends_of c)) (omega (arith, e))

-- theirs follow those before, as far as there are rows
pub rows_kept : (t : Tally) (rows : List Row) (cs : List Checkpoint) (n : ℕ) → n ≡ t.count + length cs
    → ends_in (take n (kept (t, rows) cs).1) ≡ ends_in (take t.count rows) ++ map ends_of (take (length rows - t.count) cs)
rows_kept t rows [] n e = (λ i. ends_in (take (same i) rows)) ∙ sym (append-nil (ends_in (take t.count rows)))
    ∙ ap (λ (xs : List Checkpoint). ends_in (take t.count rows) ++ map ends_of xs) (sym (nothing (length rows - t.count)))
  where
    same : n ≡ t.count
    same = omega (arith, e)

    nothing : (k : ℕ) → take {A = Checkpoint} k [] ≡ []
    nothing zero = refl
    nothing (suc k) = refl
rows_kept t rows (c ∷ cs) n e =
    let row = row_of (ends_of c) in
    let front = ends_in (take t.count rows) in
    let left = length rows - (t.count + 1) in
    let same : length (set rows t.count row) - (t.count + 1) ≡ left = omega (arith, length-set rows t.count row) in
    rows_kept (one_more t c) (set rows t.count row) cs n (omega (arith, e))
    ∙ ap (λ (k : ℕ). ends_in (take (t.count + 1) (set rows t.count row)) ++ map ends_of (take k cs)) same
    ∙ (elim (nat_lt t.count (length rows)) as (λ y. nat_lt t.count (length rows) ≡ y
    → ends_in (take (t.count + 1) (set rows t.count row)) ++ map ends_of (take left cs) ≡ front ++ map ends_of (take (length rows - t.count) (c ∷ cs))) [
      | true ↦ λ h.
          let within = ltb-true t.count (length rows) h in
          let more : length rows - t.count ≡ suc left = omega (arith, within) in
          ap (λ (rs : List Row). ends_in rs ++ map ends_of (take left cs)) (take_more_set rows t.count row within)
          ∙ ap (λ (es : List RowEnd). es ++ map ends_of (take left cs)) (map-append end_of (take t.count rows) (row ∷ []))
          ∙ append_assoc front (ends_of c ∷ []) (map ends_of (take left cs)) ∙ ap (λ (k : ℕ). front ++ map ends_of (take k (c ∷ cs))) (sym more)
      | false ↦ λ h.
          let past = ltb-false t.count (length rows) h in
          let none : left ≡ 0 = omega (arith, past) in
          let none_at : length rows - t.count ≡ 0 = omega (arith, past) in
          let all : take (t.count + 1) (set rows t.count row) ≡ take t.count rows =
          ap (take (t.count + 1)) (set_past rows t.count row past) ∙ take_all (t.count + 1) rows (omega (arith, past)) ∙ sym (take_all t.count rows past) in
          (λ i. ends_in (all i) ++ map ends_of (take (none i) cs)) ∙ ap (λ (k : ℕ). front ++ map ends_of (take k (c ∷ cs))) (sym none_at)
    ]) refl
