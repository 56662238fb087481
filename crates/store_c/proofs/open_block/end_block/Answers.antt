use Rattle.std.proofs.Common.{subst, arith, inr}
use Rattle.layered_index.specs.declared.row.RowEnd.{RowEnd}
use Rattle.store_c.specs.Writing.{Memory, memory, EndsBlockAt, RefusesEnd}
use Rattle.store_c.proofs.MemoryLemmas.{ended}
use Rattle.store_c.proofs.MemoryRefusalLemmas.{no_end}
use Rattle.store_c.proofs.open_block.end_block.Goals as goal

pub returns-in-Ok-clause-ended : goal.returns-in-Ok-clause-ended
returns-in-Ok-clause-ended c written w h =
    let old : Memory = memory c.args.writer.now c.args.starts.now c.args.table.now in
    let ends = subst (λ (b : RowEnd). EndsBlockAt b c.args.writer.now.docs c.args.writer.now.bytes c.in-Ok.end) c.start_of-start.ensures c.in-Ok.ensures.end in
    let done = ended old c.in-Ok.end (omega arith) (omega arith) (omega arith) ends written w h in
    rw (c.finish.ensures.count, c.finish.ensures.writer, c.finish.ensures.starts, c.finish.ensures.table) done

pub returns-in-Ok-clause-takes : goal.returns-in-Ok-clause-takes
returns-in-Ok-clause-takes c =
    let ends = subst (λ (b : RowEnd). EndsBlockAt b c.args.writer.now.docs c.args.writer.now.bytes c.in-Ok.end) c.start_of-start.ensures c.in-Ok.ensures.end in
    inr ((omega arith, omega arith), (c.in-Ok.end, ends))

pub returns-in-Err-clause-refused : goal.returns-in-Err-clause-refused
returns-in-Err-clause-refused c = (
  omega arith,
  (omega arith, omega arith),
  no_end (memory c.args.writer.now c.args.starts.now c.args.table.now) c.in-Err.field-0
      (subst (λ (b : RowEnd). RefusesEnd b c.args.writer.now.docs c.args.writer.now.bytes c.in-Err.field-0) c.start_of-start.ensures c.in-Err.ensures.refused),
)
