-- What is left to write is the rest of the bytes.
use Rattle.framed_logs.specs.Printed.{AppendsUpTo}
use Rattle.framed_logs.proofs.writing.write_known.Given as goal

abbrev pub invariant-loop : goal.invariant-loop
invariant-loop g l = AppendsUpTo (g.W.Write.contents l.initial.output) (g.W.Write.contents l.output) l.bytes l.rest
