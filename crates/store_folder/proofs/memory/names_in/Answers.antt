use Rattle.std.proofs.Common.{ap, map, string_bytes}
use Rattle.store_folder.specs.Changes.{look_of}
use Rattle.store_folder.proofs.NamesLemmas.{started, one_more, all_named}
use Rattle.store_folder.proofs.memory.names_in.Goals as goal

pub loop-change-init : goal.loop-change-init
loop-change-init c = started (look_of c.args.changes.now) _ (ap (map string_bytes) c.new-names.ensures.items)

pub loop-change-preserved : goal.loop-change-preserved
loop-change-preserved c =
    one_more (look_of c.args.changes.now) c.args.changes.now c.loop-change.change-index c.change-item.result _ c.loop-change-test.true c.change-item.is
    (c.in_ok-add_name.ensures _ c.loop-change.invariant)

pub returns : goal.returns
returns c = all_named c.args.changes.now c.loop-change.change-index _ c.loop-change-test.false c.loop-change.invariant
