use Rattle.std.proofs.Common.{◌≡◌, ◌+◌, ◌-◌}
use Rattle.store_commands.specs.Checks.{damaged_count}
use Rattle.store_commands.proofs.checking.damaged_in.Given as goal

-- those without room, and the damaged ones so far
abbrev pub invariant-loop-position : goal.invariant-loop-position
invariant-loop-position l = l.damaged ≡ (l.documents - l.with_room) + damaged_count l.block l.position
