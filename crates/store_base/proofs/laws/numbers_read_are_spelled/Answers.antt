use Rattle.store_base.specs.ReadingLemmas.{numbers_read_are_spelled}
use Rattle.store_base.proofs.laws.numbers_read_are_spelled.Goals as goal

pub returns : goal.returns
returns c = numbers_read_are_spelled
