use Rattle.std.proofs.Common.{◌≡◌, ◌-◌}
use Rattle.store_reader.specs.Reading.{num_docs}
use Rattle.store_commands.specs.Documents.{kept_by}
use Rattle.store_commands.proofs.GivingLemmas.{HasGiven}
use Rattle.store_commands.proofs.block_walk.give_documents.Given as goal

-- the documents of the blocks so far were given
abbrev pub invariant-loop-block : goal.invariant-loop-block
invariant-loop-block g l = record {
  given : HasGiven g.T.DocumentTarget.takes (kept_by l.left_out) l.fn.reader l.reader l.next_id l.fn.target l.target;
  steady : g.T.DocumentTarget.failures l.target ≡ g.T.DocumentTarget.failures l.fn.target;
  file : l.reader.file.failures ≡ l.fn.reader.file.failures;
}

abbrev pub decreases-loop-block : goal.decreases-loop-block
decreases-loop-block g l = num_docs l.reader - l.next_id
