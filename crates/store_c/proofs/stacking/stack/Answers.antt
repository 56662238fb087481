use Rattle.std.proofs.Common.{◌≡◌, ℕ, [], length, refl, sym, ap, ◌∙◌, arith, rules}
use Rattle.docstore.proofs.TakenLemmas.{length-slots}
use Rattle.layered_index.specs.declared.row.RowEnd.{RowEnd}
use Rattle.store_format.specs.Footer.{version_number}
use Rattle.store_format.specs.declared.version.DocStoreVersion.{DocStoreVersion}
use Rattle.store_format.specs.declared.version.DocStoreVersion.TheVariants.{V1}
use Rattle.store_reader.proofs.StoreSliceLemmas.{same_version}
use Rattle.store_c.specs.Writing.{memory}
use Rattle.store_c.proofs.FirstRefusalLemmas.{same_counts}
use Rattle.store_c.proofs.MemoryLemmas.{has_finished, open_at}
use Rattle.store_c.proofs.StackLemmas.{in_line_after, rows_fit, has_place, numbers_with, stacked}
use Rattle.store_c.proofs.stacking.stack.Goals as goal

-- another version has another number
not_old : (v : DocStoreVersion) (n : ℕ) → (v ≡ V1 → ⊥) → version_number v ≡ n → n ≡ 1 → ⊥
not_old v n other is one = other (same_version v V1 (is ∙ one))

pub returns-then-eq-clause-refused : goal.returns-then-eq-clause-refused
returns-then-eq-clause-refused c s = let is : c.version.result ≡ V1 = search rules in sym (c.version.ensures s) ∙ ap version_number is

pub returns-then-writer-gt0-clause-refused : goal.returns-then-writer-gt0-clause-refused
returns-then-writer-gt0-clause-refused c s = (not_old c.version.result s.version (search rules) (c.version.ensures s), omega arith)

pub returns-then-writer-table-clause-refused : goal.returns-then-writer-table-clause-refused
returns-then-writer-table-clause-refused c s =
    ((not_old c.version.result s.version (search rules) (c.version.ensures s), omega arith), rows_fit c.args.writer.now c.args.table.now c.if-writer-table.true)

pub returns-then-checked-start-clause-refused : goal.returns-then-checked-start-clause-refused
returns-then-checked-start-clause-refused c s = (
  (not_old c.version.result s.version (search rules) (c.version.ensures s), omega arith),
  λ starts text w h.
      let m = memory c.args.writer.now starts c.args.table.now in
      let at = ap (λ (b : RowEnd). b.end_doc) (c.start_of-start.ensures ∙ open_at m w (has_finished m text w h)) in
      omega (arith, at, c.if-checked-start.true, (same_counts c.args.store.now s _ _ c.requires.known).1, h.docs),
)

pub returns-then-block_data-start-clause-refused : goal.returns-then-block_data-start-clause-refused
returns-then-block_data-start-clause-refused c s = (
  (not_old c.version.result s.version (search rules) (c.version.ensures s), omega arith),
  has_place c.args.writer.now c.args.table.now [] 0 0 c.start_of-start.result _ s.blocks s.store.blocks refl (omega arith) (omega arith) c.start_of-start.ensures
      (omega (arith, c.if-checked-start.false, (same_counts c.args.store.now s _ _ c.requires.known).1)) (omega (arith, c.if-block_data-start.true, ap length (c.block_data.ensures.«data» s))),
)

pub returns-then-checked-table-clause-refused : goal.returns-then-checked-table-clause-refused
returns-then-checked-table-clause-refused c s =
    let same = same_counts c.args.store.now s _ _ c.requires.known in (
      (not_old c.version.result s.version (search rules) (c.version.ensures s), omega arith),
      numbers_with s.blocks c.args.writer.now c.args.table.now _ (omega arith) c.start_of-start.ensures (omega (arith, c.if-checked-start.false, same.1)),
      omega (arith, c.if-checked-table.true, same.0),
    )

pub unreachable-requires : goal.unreachable-requires
unreachable-requires c = c.in_default.ensures.store c.requires.known.store

pub fill-requires-clause-in_line : goal.fill-requires-clause-in_line
fill-requires-clause-in_line c =
    let s = c.requires.known.store in
    in_line_after c.start_of-start.result.end_doc c.start_of-start.result.end_byte c.in-Ok.checkpoints s.blocks (c.in-Ok.ensures.store s) s.store.blocks.each
    (omega (arith, c.if-checked-start.false, length-slots s.blocks, c.requires.known.docs)) (omega (arith, c.if-block_data-start.false, ap length (c.block_data.ensures.«data» s)))

pub returns-clause-stacked : goal.returns-clause-stacked
returns-clause-stacked c s =
    let same = same_counts c.args.store.now s _ _ c.requires.known in
    let done = stacked c.args.writer.now c.args.table.now c.fill.new.table _ c.args.checked.now.blocks c.start_of-start.result c.in-Ok.checkpoints s.blocks s.store.blocks (c.in-Ok.ensures.store s)
    (omega arith) (omega arith) c.start_of-start.ensures (omega (arith, c.if-checked-start.false, same.1)) c.fill.ensures.filled (sym same.0 ∙ sym (ap length (c.in-Ok.ensures.store s)))
    (omega (arith, c.fill.ensures.len, c.if-checked-table.false)) in
    done

pub returns-clause-takes : goal.returns-clause-takes
returns-clause-takes c s =
    let same = same_counts c.args.store.now s _ _ c.requires.known in
    record {
      may = (not_old c.version.result s.version (search rules) (c.version.ensures s), omega arith);
      numbers = numbers_with s.blocks c.args.writer.now c.args.table.now _ (omega arith) c.start_of-start.ensures (omega (arith, c.if-checked-start.false, same.1));
      room = omega (arith, c.if-checked-table.false, same.0);
    }
