-- The document has what was read, and no end is in it.
use Rattle.std.proofs.Common.{◌≢◌, All}
use Rattle.std.specs.Io.KnownBytes.{Consumes}
use Rattle.document_framing.proofs.pieces.read_through.Given as goal

abbrev pub invariant-loop : goal.invariant-loop
invariant-loop g l = record {
  none : All (λ x. x ≢ l.fn.end) l.document.items;
  read : Consumes (g.R.Read.remaining l.initial.input) (g.R.Read.remaining l.input) l.document.items;
}
