use Rattle.std.proofs.Common.{◌≡◌, ◌≤◌, ◌+◌, ◌-◌, ◌*◌, List, None, IfSome}
use Rattle.store_base.specs.Counts.{raised}
use Rattle.layered_index.specs.declared.checkpoint.Checkpoint.{Checkpoint}
use Rattle.layered_index.specs.Checkpoint.{IsInLine}
use Rattle.layered_index.specs.Rows.{IsFoundIn, lower_layers}
use Rattle.layered_index.specs.Sought.{IsPast, layers_left}
use Rattle.layered_index.proofs.LowerLemmas.{LeadsLower}
use Rattle.layered_index.proofs.lower_layers.LowerLayers.descend.Given as goal

-- the layers that are left lead to the answer, if they are those of a list
abbrev pub invariant-loop : goal.invariant-loop
invariant-loop l = record {
  leads : (cs : List Checkpoint) → IsInLine cs → l.self ≡ lower_layers l.self.period l.self.height cs → IsFoundIn l.self.period l.self.height cs l.target l.fn.above
      → LeadsLower l.period l.target cs l.fn.above l.found l.run (layers_left (l.end - l.counter) l.place l.ends l.texts);
  counted : l.steps ≤ l.initial.steps + l.period * l.counter;
  past : IfSome l.found (IsPast l.target);
  more : l.initial.steps ≤ l.steps;
  least : l.fn.above ≡ None → IfSome l.found (λ _. raised l.initial.steps 1 ≤ l.steps);
}
