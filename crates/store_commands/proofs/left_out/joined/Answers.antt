use Rattle.store_commands.proofs.SpanLemmas.{both_filled}
use Rattle.store_commands.proofs.left_out.joined.Goals as goal

pub in_order-requires : goal.in_order-requires
in_order-requires c =
    let first = c.in_ok-extend_from_slice.ensures.items in
    rw (c.in_ok-extend_from_slice-2.ensures.items, c.in_ok-extend_from_slice.ensures.items, c.new-spans.ensures.items)
    (both_filled 0 0 c.args.some.now c.args.others.now c.requires.some c.requires.others)
