use Rattle.store_base.proofs.RecordTexts.{old_records_are_read}
use Rattle.store_base.proofs.laws.old_records_are_read.Goals as goal

pub returns : goal.returns
returns c = old_records_are_read
