use Rattle.std.proofs.Common.{◌≡◌, ℕ, ◌++◌, List, length, map, take, drop, refl, sym, ap, subst, ◌∙◌, arith}
use Rattle.std.proofs.lemmas.List.{take_all}
use Rattle.layered_index.specs.declared.check.CheckedIndex.{CheckedIndex}
use Rattle.layered_index.specs.declared.checkpoint.Checkpoint.{Checkpoint}
use Rattle.layered_index.specs.declared.row.Row.{Row}
use Rattle.layered_index.specs.declared.row.RowEnd.{RowEnd}
use Rattle.layered_index.specs.Checkpoint.{IsInLineFrom}
use Rattle.layered_index.specs.Covering.{covered_to}
use Rattle.layered_index.specs.IndexReading.{IsIndexPart}
use Rattle.layered_index.specs.Rows.{ends_in, ends_of, checkpoints_from}
use Rattle.layered_index.specs.Sought.{IndexBytes}
use Rattle.layered_index.specs.Tallies.{IsChecked}
use Rattle.layered_index.proofs.ClosingLemmas.{whole_slice}
use Rattle.layered_index.proofs.RowListLemmas.{from_ends}
use Rattle.layered_index.proofs.skip_index.SkipIndex.open_with_period.Goals as goal

-- a list that was read of what was checked
IsRead : IndexBytes → CheckedIndex → List Checkpoint → Type 0
IsRead v x cs = IsIndexPart v.period v.bytes cs × (x.covered ≡ covered_to 0 0 cs)

-- rows that end where the checkpoints do, of which there are as many, tell them
read_is : (u v : IndexBytes) (x : CheckedIndex) (before after rows : List Row) (start : RowEnd) → u ≡ v → (checked : IsChecked u.period u.bytes x before after)
    → length before ≡ length checked.cs → length after ≡ length before → ends_in rows ≡ ends_in after → IsInLineFrom start.end_doc start.end_byte checked.cs
    → IsRead v x (checkpoints_from start (ends_in rows))
unfolding IsRead
read_is u v x before after rows start same checked many kept ends line =
    let cs = checked.cs in
    let all : ends_in after ≡ map ends_of cs = sym (ap ends_in (take_all (length cs) after (omega (arith, many, kept)))) ∙ checked.rows
    ∙ ap (map ends_of) (take_all (length before) cs (omega (arith, many))) in
    let is : checkpoints_from start (ends_in rows) ≡ cs = ap (checkpoints_from start) (ends ∙ all) ∙ from_ends start cs line in
    subst (λ (w : IndexBytes). IsRead w x (checkpoints_from start (ends_in rows))) same (subst (IsRead u x) (sym is) (checked.is, checked.covered))

-- the check wrote all rows, and then the guides were written over them
guided : (n : ℕ) (items before after slice new : List Row) → n ≡ length items → before ≡ items → length after ≡ length before → slice ≡ take n (after ++ drop (length after) items)
    → length new ≡ length slice → ends_in new ≡ ends_in slice → ends_in (take n (new ++ drop (length new) (take n (after ++ drop (length after) items)))) ≡ ends_in after
guided n items before after slice new fits same kept is size ends =
    let written : take n (after ++ drop (length after) items) ≡ after = whole_slice n after items (kept ∙ ap length same) fits in
    let all : length new ≡ length (take n (after ++ drop (length after) items)) = size ∙ ap length is in
    ap ends_in (whole_slice n new (take n (after ++ drop (length after) items)) all (omega (arith, fits, ap length same, kept, ap length written))) ∙ ends ∙ ap ends_in (is ∙ written)

pub invariant_of-result : goal.invariant_of-result
unfolding IsRead
invariant_of-result c =
    let checked = c.in-Ok.ensures.checked in
    let rows = c.in_ok-rows.rows in
    let before = c.deref_mut.result.now in
    let after = c.check.new.rows in
    let all = read_is c.in_ok-index.index (record { period = c.args.period; bytes = c.args.source }) c.in-Ok.checked before after _ c.start_of-start.result
    (c.in_ok-index.ensures.ok ∙ (λ i. record { period = c.args.period; bytes = c.as_slice.ensures i })) checked
    (omega (arith, rows.ok, c.in_ok-rows.ensures.len, ap length c.deref_mut.ensures.value, c.in_ok-count.ensures.answer checked.cs checked.is)) c.check.auto.rows
    (guided rows.len rows.items before after c.deref_mut-2.result.now c.write_guides.new.rows rows.ok.0 c.deref_mut.ensures.value c.check.auto.rows c.deref_mut-2.ensures.value c.write_guides.auto.rows
    c.write_guides.ensures)
    (subst (IsInLineFrom c.start_of-start.result.end_doc c.start_of-start.result.end_byte) (c.in_ok-checkpoints.ensures.answer checked.cs checked.is) c.start_of-start.ensures) in
    (c.requires.least, c.requires.most, all.0, all.1)

pub returns-clause-ok : goal.returns-clause-ok
returns-clause-ok c = (refl, (invariant_of-result c).2)
