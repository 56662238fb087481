use Rattle.store_base.specs.RecordLemmas.{records_are_read}
use Rattle.store_base.proofs.laws.records_are_read.Goals as goal

pub returns : goal.returns
returns c = records_are_read
