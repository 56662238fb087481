use Rattle.std.proofs.Common.{◌≡◌, ℕ, ◌≤◌, List, ◌++◌, length, map, take, drop, ap, ◌∙◌, arith, inl, inr, refl}
use Rattle.std.proofs.lemmas.List.{length-map, length-take-le, take_all}
use Rattle.std.proofs.lemmas.Slice.{drop-append-drop}
use Rattle.layered_index.specs.declared.row.Row.{Row}
use Rattle.layered_index.specs.Rows.{end_of, ends_in, ends_of}
use Rattle.layered_index.proofs.OutlineLemmas.{same_front}
use Rattle.store_format.specs.StoreFile.{checkpoints_of}
use Rattle.store_c.proofs.FirstRefusalLemmas.{refused_first, same_counts}
use Rattle.store_c.proofs.reading.zevk_open.Goals as goal

-- the rows after a front that is written over stay
same_rest : (n : ℕ) (rows front : List Row) → n ≤ length rows → ends_in front ≡ ends_in (take n rows) → drop n (front ++ drop n rows) ≡ drop n rows
same_rest n rows front le is =
    drop-append-drop n rows front n (omega arith)
    (omega (arith, length-map front end_of, length-map (take n rows) end_of, ap length is, length-take-le n rows le))

pub returns-in-Err-clause-first : goal.returns-in-Err-clause-first
returns-in-Err-clause-first c number refused = c.number.ensures ∙ refused_first c.args.file.now number c.in-Err.error refused c.in-Err.ensures.found c.in-Err.ensures.causes

pub returns-then-checked-table-clause-counts : goal.returns-then-checked-table-clause-counts
returns-then-checked-table-clause-counts c blocks docs has =
    let k = c.in-Ok.ensures.checked in
    let same = same_counts c.args.file.now k.store blocks docs has in
    (k.blocks ∙ same.0, k.docs ∙ same.1, inr (c.number-then-checked-table.ensures, omega (arith, k.blocks, same.0, c.if-checked-table.true)))

pub returns-clause-counts : goal.returns-clause-counts
returns-clause-counts c blocks docs has =
    let k = c.in-Ok.ensures.checked in
    let same = same_counts c.args.file.now k.store blocks docs has in
    (k.blocks ∙ same.0, k.docs ∙ same.1, inl (refl, omega (arith, k.blocks, same.0, c.if-checked-table.false)))

pub returns-clause-filled : goal.returns-clause-filled
returns-clause-filled c done =
    let k = c.in-Ok.ensures.checked in
    let n = c.in-Ok.opened.1.blocks in
    let few : n ≤ length c.open.new.rows = omega (arith, c.if-checked-table.false) in
    record {
      store = k.store;
      blocks = k.blocks;
      docs = k.docs;
      filled = same_front n c.open.new.rows c.write_guides.new.rows few c.write_guides.ensures ∙ k.rows;
      rest = same_rest n c.open.new.rows c.write_guides.new.rows few c.write_guides.ensures ∙ k.rest;
    }

pub returns-clause-done : goal.returns-clause-done
returns-clause-done c done =
    let k = c.in-Ok.ensures.checked in
    let n = c.in-Ok.opened.1.blocks in
    let few : n ≤ length c.open.new.rows = omega (arith, c.if-checked-table.false) in
    record {
      store = k.store;
      rows = same_front n c.open.new.rows c.write_guides.new.rows few c.write_guides.ensures ∙ k.rows
          ∙ ap (map ends_of) (take_all (length c.args.table.now) (checkpoints_of k.store.blocks) (omega (arith, few, k.blocks)));
    }
