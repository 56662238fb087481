use Rattle.store_base.specs.ReadingLemmas.{numbers_are_read}
use Rattle.store_base.proofs.laws.numbers_are_read.Goals as goal

pub returns : goal.returns
returns c = numbers_are_read
