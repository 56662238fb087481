-- The document has what was read, and that is not too much.
use Rattle.std.proofs.Common.{◌≤◌, length}
use Rattle.std.specs.Io.KnownBytes.{Consumes}
use Rattle.document_framing.proofs.lengths.read_up_to.Given as goal

abbrev pub invariant-loop : goal.invariant-loop
invariant-loop g l = record {
  few : length l.document.items ≤ l.fn.len;
  read : Consumes (g.R.Read.remaining l.initial.input) (g.R.Read.remaining l.input) l.document.items;
}
