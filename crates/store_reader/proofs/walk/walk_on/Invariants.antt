use Rattle.std.proofs.Common.{◌≡◌}
use Rattle.store_reader.specs.Walking.{set_in, IsWalk, WalksTo}
use Rattle.store_reader.proofs.walk.walk_on.Given as goal

-- the walk has come to this document, past none that is alive
abbrev pub invariant-loop-doc_id : goal.invariant-loop-doc_id
invariant-loop-doc_id g l = record {
  walk : IsWalk l.reader l.walk;
  here : l.walk.next ≡ l.doc_id;
  on : WalksTo (set_in l.alive) l.initial.reader l.initial.walk l.doc_id l.reader l.walk;
}
