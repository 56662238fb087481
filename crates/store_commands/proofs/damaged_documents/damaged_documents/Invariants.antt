use Rattle.std.proofs.Common.{◌≡◌, ◌-◌}
use Rattle.store_reader.specs.Reading.{num_docs}
use Rattle.store_commands.proofs.DamagedLemmas.{HasFound}
use Rattle.store_commands.proofs.damaged_documents.damaged_documents.Given as goal

-- the damaged documents of the blocks so far were found
abbrev pub invariant-loop-spans : goal.invariant-loop-spans
invariant-loop-spans g l = record {
  found : HasFound l.fn.reader l.reader l.next_id l.spans.items;
  steady : l.reader.file.failures ≡ l.fn.reader.file.failures;
}

abbrev pub decreases-loop-spans : goal.decreases-loop-spans
decreases-loop-spans g l = num_docs l.reader - l.next_id
