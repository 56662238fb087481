use Rattle.std.proofs.Common.{reverse, take}
use Rattle.store_folder.specs.Changes.{look_of, Is}
use Rattle.torn_folder.specs.Torn.{seen_by}
use Rattle.torn_folder.proofs.reading.repeated.Given as goal

abbrev pub invariant-loop-event : goal.invariant-loop-event
invariant-loop-event l = Is (seen_by (reverse (take l.event-index l.events))) (look_of l.folder.changes.items)
