use Rattle.std.proofs.Common.{arith}
use Rattle.store_c.specs.Writing.{Memory, memory}
use Rattle.store_c.proofs.MemoryRefusalLemmas.{end_other}
use Rattle.store_c.proofs.WriterNumberLemmas.{end_room, end_nowhere, ended_room, ended_somewhere}
use Rattle.store_c.proofs.writing.zevk_writer_end_block.Goals as goal

pub returns-in-Ok-clause-no_room : goal.returns-in-Ok-clause-no_room
returns-in-Ok-clause-no_room c =
    let m : Memory = memory c.args.writer.now c.args.starts.now c.args.table.now in
    (λ e. absurd (omega (arith, e)), λ x. absurd (ended_room m c.in-Ok.ensures.takes x))

pub returns-in-Ok-clause-no_end : goal.returns-in-Ok-clause-no_end
returns-in-Ok-clause-no_end c =
    let m : Memory = memory c.args.writer.now c.args.starts.now c.args.table.now in
    (λ e. absurd (omega (arith, e)), λ x. absurd (ended_somewhere m c.in-Ok.ensures.takes x))

pub returns-in-Err-clause-no_room : goal.returns-in-Err-clause-no_room
returns-in-Err-clause-no_room c =
    end_room (memory c.args.writer.now c.args.starts.now c.args.table.now) c.in-Err.refusal _ c.number.ensures c.in-Err.ensures.refused

pub returns-in-Err-clause-no_end : goal.returns-in-Err-clause-no_end
returns-in-Err-clause-no_end c =
    end_nowhere (memory c.args.writer.now c.args.starts.now c.args.table.now) c.in-Err.refusal _ c.number.ensures c.in-Err.ensures.refused

pub returns-in-Err-clause-other : goal.returns-in-Err-clause-other
returns-in-Err-clause-other c is =
    let m : Memory = memory c.args.writer.now c.args.starts.now c.args.table.now in
    let nowhere = (end_nowhere m c.in-Err.refusal _ c.number.ensures c.in-Err.ensures.refused).0 is in
    end_other m nowhere.0 nowhere.2
