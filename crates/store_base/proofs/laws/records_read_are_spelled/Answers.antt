use Rattle.store_base.proofs.RecordTexts.{records_read_are_spelled}
use Rattle.store_base.proofs.laws.records_read_are_spelled.Goals as goal

pub returns : goal.returns
returns c = records_read_are_spelled
