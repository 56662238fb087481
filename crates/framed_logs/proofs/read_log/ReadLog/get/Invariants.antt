-- It is of the same folder, and ends where it did.
use Rattle.std.proofs.Common.{◌≡◌}
use Rattle.framed_logs.proofs.read_log.ReadLog.get.Given as goal

abbrev pub invariant-loop : goal.invariant-loop
invariant-loop g l = (l.self.folder ≡ l.initial.self.folder) × (l.self.end ≡ l.initial.self.end)
