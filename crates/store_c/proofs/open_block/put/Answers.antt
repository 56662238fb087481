use Rattle.std.proofs.Common.{◌≡◌, ◌+◌, subst, arith}
use Rattle.std.proofs.lemmas.Result.{err_from_is_err_and}
use Rattle.layered_index.specs.declared.row.RowEnd.{RowEnd}
use Rattle.layered_index.specs.Rows.{ends_in, start_in}
use Rattle.store_c.specs.Writing.{memory, RefusesEnd, EndsBlockAt, HasRoom, TakesLength}
use Rattle.layered_index.proofs.RowLemmas.{zero_row}
use Rattle.store_c.proofs.MemoryLemmas.{exact_sum, exact_end, put_open, put_full}
use Rattle.store_c.proofs.MemoryRefusalLemmas.{put_refused, put_takes}
use Rattle.store_c.proofs.open_block.put.Goals.{In_ok-end}
use Rattle.store_c.proofs.open_block.put.Goals as goal

pub returns-in_err-end-clause-refused : goal.returns-in_err-end-clause-refused
returns-in_err-end-clause-refused c =
    let p = err_from_is_err_and c.from_residual.result c.from_residual.ensures.1 in
    let room = c.if-saturating_add-starts.false in
    let two = c.saturating_add.ensures in
    let rows = c.if-writer-table.false in
    rw (p.1, p.2) (put_refused (memory c.args.writer.now c.args.starts.now c.args.table.now) c.args.len c.saturating_add-bytes.result c.in_err-end.field-0.0 (omega arith, omega arith)
    c.saturating_add-bytes.ensures
    (subst (λ (b : RowEnd). RefusesEnd b (c.args.writer.now.docs + 1) c.saturating_add-bytes.result c.in_err-end.field-0.0) c.start_of-start.ensures c.in_err-end.ensures.refused))

-- there is room, and the block ends here once it takes the document
room_is : (c : In_ok-end) → HasRoom 2 (memory c.args.writer.now c.args.starts.now c.args.table.now)
room_is c =
    let room = c.if-saturating_add-starts.false in
    let two = c.saturating_add.ensures in
    let rows = c.if-writer-table.false in
    (omega arith, omega arith)

sum_is : (c : In_ok-end) → c.saturating_add-bytes.result ≡ c.args.writer.now.bytes + c.args.len
sum_is c = exact_sum (memory c.args.writer.now c.args.starts.now c.args.table.now) c.args.len _ _ _ c.saturating_add-bytes.ensures c.in_ok-end.ensures.end

ends_is : (c : In_ok-end) → EndsBlockAt (start_in zero_row (ends_in c.args.table.now) c.args.writer.now.blocks) (c.args.writer.now.docs + 1) (c.args.writer.now.bytes + c.args.len) c.in_ok-end.end
ends_is c = exact_end (memory c.args.writer.now c.args.starts.now c.args.table.now) c.args.len _ _ _ (sum_is c) c.start_of-start.ensures c.in_ok-end.ensures.end

pub returns-then-weight_of-writer-clause-put : goal.returns-then-weight_of-writer-clause-put
returns-then-weight_of-writer-clause-put c written w document size h =
    let here = (goal.at.returns-then-weight_of-writer-clause-put c).In_ok-end in
    let room = room_is here in
    let sum = sum_is here in
    let heavy = c.if-weight_of-writer.true in
    let weighed = c.weight_of.ensures in
    let done = put_full (memory c.args.writer.now c.args.starts.now c.args.table.now) c.args.len c.in_ok-end.end (omega (arith, room.0)) (omega (arith, room.1)) (ends_is here)
    (omega arith) written w document size h in
    let count : c.finish.result ≡ c.args.writer.now.docs + 2 = omega (arith, c.finish.ensures.count) in
    rw (count, c.finish.ensures.writer, c.finish.ensures.starts, c.finish.ensures.table) done

pub returns-else-weight_of-writer-clause-put : goal.returns-else-weight_of-writer-clause-put
returns-else-weight_of-writer-clause-put c written w document size h =
    let here = (goal.at.returns-else-weight_of-writer-clause-put c).In_ok-end in
    let room = room_is here in
    let sum = sum_is here in
    let light = c.if-weight_of-writer.false in
    let weighed = c.weight_of.ensures in
    rw sum (put_open (memory c.args.writer.now c.args.starts.now c.args.table.now) c.args.len c.in_ok-end.end (omega (arith, room.0)) (omega (arith, room.1)) (ends_is here)
    (omega arith) written w document size h)

-- it takes the length
takes : (c : In_ok-end) → TakesLength c.args.len (memory c.args.writer.now c.args.starts.now c.args.table.now)
takes c = put_takes (memory c.args.writer.now c.args.starts.now c.args.table.now) c.args.len _ (room_is c) (ends_is c)

pub returns-then-weight_of-writer-clause-takes : goal.returns-then-weight_of-writer-clause-takes
returns-then-weight_of-writer-clause-takes c = takes (goal.at.returns-then-weight_of-writer-clause-takes c).In_ok-end

pub returns-else-weight_of-writer-clause-takes : goal.returns-else-weight_of-writer-clause-takes
returns-else-weight_of-writer-clause-takes c = takes (goal.at.returns-else-weight_of-writer-clause-takes c).In_ok-end
