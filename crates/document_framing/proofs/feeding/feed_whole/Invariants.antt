-- The pieces of the bytes that were taken came, and the rest follows these bytes.
use Rattle.std.proofs.Common.{◌≡◌, ◌≤◌, length, take, drop}
use Rattle.document_framing.specs.Taking.{TakesPieces}
use Rattle.document_framing.proofs.feeding.feed_whole.Given as goal

abbrev pub invariant-loop : goal.invariant-loop
invariant-loop g l = record {
  within : l.taken ≤ length l.fn.bytes;
  rest : l.rest ≡ drop l.taken l.fn.bytes;
  fed : TakesPieces g.S.DocumentSink.adds l.fn.framing l.fn.end (take l.taken l.fn.bytes) l.initial.sink l.sink;
}
