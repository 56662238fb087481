use Rattle.std.proofs.Common.{◌≡◌, ◌≤◌, length, take, drop}
use Rattle.std.specs.Prelude.{vec_capacity}
use Rattle.docstore.specs.Run.{AreCommandsKept}
use Rattle.docstore.specs.Writer.{IsStoreWriter}
use Rattle.docstore.proofs.CommandLemmas.{IsRun, HasFailedSince}
use Rattle.docstore.proofs.run.write_store_with_period.Given as goal

abbrev pub invariant-loop-command : goal.invariant-loop-command
invariant-loop-command g l = record {
  run : IsRun l.block_size l.period (g.W.TerminatingWrite.content l.fn.output) (λ d. g.D.Document.doc_bytes d l.schema) (take l.command-index l.fn.commands)
      (take l.command-index l.commands) l.results.items l.writer;
  failed : HasFailedSince (g.W.TerminatingWrite.content l.fn.output) (g.W.TerminatingWrite.failures l.fn.output) l.writer;
  termination : l.writer.output.termination ≡ g.W.TerminatingWrite.termination l.fn.output;
  count : g.W.TerminatingWrite.failures l.fn.output ≤ l.writer.output.failures;
  kept : AreCommandsKept (take l.command-index l.fn.commands) (take l.command-index l.commands);
  rest : drop l.command-index l.commands ≡ drop l.command-index l.fn.commands;
  len : length l.results.items ≡ l.command-index;
  room : length l.commands ≤ vec_capacity l.results;
  sound : IsStoreWriter l.writer;
}
