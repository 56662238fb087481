use Rattle.std.proofs.Common.{arith}
use Rattle.store_c.specs.Writing.{Memory, memory}
use Rattle.store_c.proofs.MemoryRefusalLemmas.{no_room}
use Rattle.store_c.proofs.WriterNumberLemmas.{put_room, put_many, put_large, taken_many, taken_large}
use Rattle.store_c.proofs.writing.zevk_writer_put.Goals as goal

pub returns-in-Ok-clause-no_room : goal.returns-in-Ok-clause-no_room
returns-in-Ok-clause-no_room c =
    let m : Memory = memory c.args.writer.now c.args.starts.now c.args.table.now in
    (λ e. absurd (omega (arith, e)), λ x. absurd (no_room 2 m c.in-Ok.ensures.takes.room x))

pub returns-in-Ok-clause-too_many : goal.returns-in-Ok-clause-too_many
returns-in-Ok-clause-too_many c written w h =
    let m : Memory = memory c.args.writer.now c.args.starts.now c.args.table.now in
    (λ e. absurd (omega (arith, e)), λ x. absurd (taken_many c.args.len m c.in-Ok.ensures.takes written w h x))

pub returns-in-Ok-clause-too_large : goal.returns-in-Ok-clause-too_large
returns-in-Ok-clause-too_large c written document w size h =
    let m : Memory = memory c.args.writer.now c.args.starts.now c.args.table.now in
    (λ e. absurd (omega (arith, e)), λ x. absurd (taken_large c.args.len m c.in-Ok.ensures.takes written document w size h x))

pub returns-in-Err-clause-no_room : goal.returns-in-Err-clause-no_room
returns-in-Err-clause-no_room c =
    put_room c.args.len (memory c.args.writer.now c.args.starts.now c.args.table.now) c.in-Err.refusal _ c.number.ensures c.in-Err.ensures.refused

pub returns-in-Err-clause-too_many : goal.returns-in-Err-clause-too_many
returns-in-Err-clause-too_many c =
    put_many c.args.len (memory c.args.writer.now c.args.starts.now c.args.table.now) c.in-Err.refusal _ c.number.ensures c.in-Err.ensures.refused

pub returns-in-Err-clause-too_large : goal.returns-in-Err-clause-too_large
returns-in-Err-clause-too_large c =
    put_large c.args.len (memory c.args.writer.now c.args.starts.now c.args.table.now) c.in-Err.refusal _ c.number.ensures c.in-Err.ensures.refused
