use Rattle.std.proofs.Common.{◌≡◌, ◌≤◌, ◌++◌, reverse}
use Rattle.std.specs.List.{concat}
use Rattle.layered_index.specs.Building.{texts_of}
use Rattle.layered_index.proofs.skip_index_builder.write_layers.Given as goal

-- the texts so far, and those to come
abbrev pub invariant-loop-closed : goal.invariant-loop-closed
invariant-loop-closed g l =
    let left = reverse (texts_of l.closed-iterator.iter.rest.now) in
    record {
      content : g.W.TerminatingWrite.content l.output ++ concat left ≡ g.W.TerminatingWrite.content l.fn.output ++ concat (reverse (texts_of l.layers));
      termination : g.W.TerminatingWrite.termination l.output ≡ g.W.TerminatingWrite.termination l.fn.output;
      count : g.W.TerminatingWrite.failures l.fn.output ≤ g.W.TerminatingWrite.failures l.output;
    }
