use Rattle.std.proofs.Common.{◌≡◌, ◌-◌, ◌≤◌, min}
use Rattle.store_commands.specs.Checks.{slots_in}
use Rattle.store_commands.specs.Documents.{kept_by, numbered_from, TakesSlots}
use Rattle.store_commands.proofs.block_walk.give_block.Given as goal

-- the documents before the next id were given
abbrev pub invariant-loop-next_id : goal.invariant-loop-next_id
invariant-loop-next_id g l = record {
  on : l.first ≤ l.next_id;
  taken : TakesSlots g.T.DocumentTarget.takes (numbered_from l.first (slots_in l.bytes (min l.next_id l.end - l.first)) (kept_by l.left_out)) l.fn.target l.target;
  steady : g.T.DocumentTarget.failures l.target ≡ g.T.DocumentTarget.failures l.fn.target;
}

abbrev pub decreases-loop-next_id : goal.decreases-loop-next_id
decreases-loop-next_id g l = l.end - l.next_id
