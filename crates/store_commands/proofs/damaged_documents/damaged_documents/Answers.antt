use Rattle.std.proofs.Common.{ℕ, ◌-◌, List, refl, ap, ◌∙◌}
use Rattle.std.specs.Prelude.{◌||◌}
use Rattle.store_commands.specs.Checks.{slots_in}
use Rattle.store_commands.specs.Damaged.{damaged_from}
use Rattle.store_commands.specs.LeftOut.{is_among}
use Rattle.store_commands.proofs.DamagedLemmas.{HasFound, AreDamagedOf, found_first, found_more, found_all}
use Rattle.store_commands.proofs.EndingLemmas.{steady_of}
use Rattle.store_commands.proofs.WalkLemmas.{seeks_some, bytes_some, none_left, walked_whole, walked_within}
use Rattle.store_commands.proofs.damaged_documents.damaged_documents.Goals.{In_ok-add_damaged}
use Rattle.store_commands.proofs.damaged_documents.damaged_documents.Goals as goal

pub loop-spans-init : goal.loop-spans-init
loop-spans-init g c = record {
  found = rw c.new-spans.ensures.items (found_first c.args.reader.now c.num_docs.ensures.covers);
  steady = refl;
}

-- the damaged documents of one block more were found
one_more : (g : _) (c : In_ok-add_damaged g) → HasFound c.args.reader.now c.read_block.new.self c.in-Some.block.ids.end c.add_damaged.new.spans.items
one_more g c =
    let part = c.in-Some.block in let spans = c.loop-spans.spans.items in
    found_more c.args.reader.now c.loop-spans.reader c.read_block.new.self c.loop-spans.next_id spans c.add_damaged.new.spans.items part c.loop-spans.invariant.found
    (seeks_some c.in_ok-block.field-0 part _ c.in-Some.is c.in_ok-block.ensures.place)
    (λ honest. bytes_some c.loop-spans.reader.file.content c.in_ok-block.field-0 part c.in-Some.is (c.in_ok-block.ensures.bytes honest))
    c.read_block.ensures.no_read c.read_block.ensures.once
    (λ id. c.in_ok-add_damaged.ensures.added id
    ∙ ap (λ (xs : List ℕ). is_among spans id || damaged_from part.ids.start (slots_in xs (part.ids.end - part.ids.start)) id) c.as_slice.ensures)
    c.in_ok-add_damaged.ensures.filled

pub loop-spans-preserved-in_ok-add_damaged : goal.loop-spans-preserved-in_ok-add_damaged
loop-spans-preserved-in_ok-add_damaged g c = record {
  found = one_more g (goal.at.loop-spans-preserved-in_ok-add_damaged g c).In_ok-add_damaged;
  steady = steady_of c.in_ok-block.field-0 c.in_ok-block.ensures.steady ∙ c.loop-spans.invariant.steady;
}

pub loop-spans-preserved : goal.loop-spans-preserved
loop-spans-preserved g c = record {
  found = one_more g (goal.at.loop-spans-preserved g c).In_ok-add_damaged;
  steady = steady_of c.in_ok-block.field-0 c.in_ok-block.ensures.steady ∙ c.loop-spans.invariant.steady;
}

pub returns-clause-damaged : goal.returns-clause-damaged
returns-clause-damaged g c honest id =
    c.in_ok-in_order.ensures.same id
    ∙ found_all c.args.reader.now c.loop-spans.reader c.loop-spans.next_id c.loop-spans.spans.items c.loop-spans.invariant.found
    (c.in_ok-block.ensures.none.0 (none_left c.in_ok-block.field-0 c.in_default.is)) honest id

pub returns-clause-read : goal.returns-clause-read
returns-clause-read g c =
    walked_whole (AreDamagedOf c.loop-spans.spans.items) c.args.reader.now c.loop-spans.reader c.read_block.new.self c.loop-spans.next_id c.loop-spans.invariant.found.walked
    (c.in_ok-block.ensures.none.0 (none_left c.in_ok-block.field-0 c.in_default.is)) c.read_block.ensures.no_read

pub returns-clause-kept : goal.returns-clause-kept
returns-clause-kept g c =
    walked_within (AreDamagedOf c.loop-spans.spans.items) c.args.reader.now c.loop-spans.reader c.read_block.new.self c.loop-spans.next_id c.loop-spans.invariant.found.walked
    c.read_block.ensures.no_read c.read_block.ensures.once

pub returns-in_err-block-clause-kept : goal.returns-in_err-block-clause-kept
returns-in_err-block-clause-kept g c =
    walked_within (AreDamagedOf c.loop-spans.spans.items) c.args.reader.now c.loop-spans.reader c.read_block.new.self c.loop-spans.next_id c.loop-spans.invariant.found.walked
    c.read_block.ensures.no_read c.read_block.ensures.once

pub returns-in_err-add_damaged-clause-kept : goal.returns-in_err-add_damaged-clause-kept
returns-in_err-add_damaged-clause-kept g c =
    walked_within (AreDamagedOf c.loop-spans.spans.items) c.args.reader.now c.loop-spans.reader c.read_block.new.self c.loop-spans.next_id c.loop-spans.invariant.found.walked
    c.read_block.ensures.no_read c.read_block.ensures.once

pub returns-in_err-in_order-clause-kept : goal.returns-in_err-in_order-clause-kept
returns-in_err-in_order-clause-kept g c =
    walked_within (AreDamagedOf c.loop-spans.spans.items) c.args.reader.now c.loop-spans.reader c.read_block.new.self c.loop-spans.next_id c.loop-spans.invariant.found.walked
    c.read_block.ensures.no_read c.read_block.ensures.once
