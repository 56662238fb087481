use Rattle.std.proofs.Common.{◌≡◌, ◌-◌}
use Rattle.std.specs.Prelude.{is_some}
use Rattle.layered_index.specs.Sought.{layers_left}
use Rattle.layered_index.proofs.check.is_cut.Given as goal

-- those that are left can be cut exactly if all can
abbrev pub invariant-loop : goal.invariant-loop
invariant-loop l = is_some (layers_left (l.count - l.counter) l.place l.ends_left l.texts_left) ≡ is_some (layers_left l.count 0 l.ends l.texts)
