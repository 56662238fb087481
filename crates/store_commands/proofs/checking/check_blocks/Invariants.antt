use Rattle.std.proofs.Common.{◌≡◌, ◌-◌}
use Rattle.store_reader.specs.Reading.{num_docs}
use Rattle.store_commands.proofs.CheckLemmas.{HasTold}
use Rattle.store_commands.proofs.checking.check_blocks.Given as goal

-- the blocks so far were judged, and the watch has watched them
abbrev pub invariant-loop-block : goal.invariant-loop-block
invariant-loop-block g l = record {
  checked : HasTold g.P.BlockWatch.adds l.fn.reader l.reader l.next_id l.verdict l.fn.watch l.watch;
  steady : l.reader.file.failures ≡ l.fn.reader.file.failures;
}

abbrev pub decreases-loop-block : goal.decreases-loop-block
decreases-loop-block g l = num_docs l.reader - l.next_id
