use Rattle.std.proofs.Common.{◌≡◌, ◌+◌, ◌-◌, arith, ap, ◌∙◌}
use Rattle.store_commands.specs.Checks.{damaged_count}
use Rattle.store_commands.proofs.CountLemmas.{damaged_more, damaged_few, damaged_rest, told_byte}
use Rattle.store_commands.proofs.checking.damaged_in.Goals as goal

pub loop-position-preserved : goal.loop-position-preserved
loop-position-preserved c =
    let more = damaged_more c.args.block.now c.loop-position.position in
    let few = damaged_few c.args.block.now c.loop-position.position in
    let more_few = damaged_few c.args.block.now (c.loop-position.position + 1) in
    let byte = told_byte c.block_read_index.result _ _ c.is_none-is_damaged.result c.block_read_index.ensures.slot c.is_none-is_damaged.ensures in
    let result = c.from.ensures ∙ byte in
    omega (arith, c.loop-position.invariant, c.saturating_add-damaged.ensures)

pub returns : goal.returns
returns c =
    let with_room = c.documents_with_room-with_room.result in
    let few = c.documents_with_room-with_room.ensures.few in
    let rest = damaged_rest c.args.block.now with_room (c.args.documents - with_room) (λ k le lt. c.documents_with_room-with_room.ensures.others k le (omega arith)) in
    let all : with_room + (c.args.documents - with_room) ≡ c.args.documents = omega arith in
    let ends : c.loop-position.position ≡ with_room = omega arith in
    let here = ap (damaged_count c.args.block.now) ends in
    let whole = ap (damaged_count c.args.block.now) all in
    omega (arith, c.loop-position.invariant)
