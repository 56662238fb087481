-- The documents or records of the ranges so far were printed.
use Rattle.std.proofs.Common.{take}
use Rattle.program_base.proofs.numbered.print_ranges.Given as goal

abbrev pub invariant-loop-range : goal.invariant-loop-range
invariant-loop-range g l = g.N.Numbered.prints l.fn.form (take l.range-index l.ranges) l.initial.numbered l.numbered
    (g.W.Write.contents l.initial.output) (g.W.Write.contents l.output)
