-- The numbers before this one are written. Where there are none, it is the first one.
use Rattle.std.proofs.Common.{◌≡◌, ◌≤◌, ◌-◌}
use Rattle.std.specs.Io.KnownBytes.{Appends}
use Rattle.framed_logs.specs.Printed.{number_lines}
use Rattle.framed_logs.proofs.writing.write_lines.Given as goal

abbrev pub invariant-loop-number : goal.invariant-loop-number
invariant-loop-number g l = Appends (g.W.Write.contents l.initial.output) (g.W.Write.contents l.output) (number_lines l.from (l.number - l.from))
    × (l.to ≤ l.from → l.number ≡ l.from)
