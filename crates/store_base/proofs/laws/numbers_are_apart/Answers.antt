use Rattle.store_base.specs.VIntLemmas.{numbers_are_apart}
use Rattle.store_base.proofs.laws.numbers_are_apart.Goals as goal

pub returns : goal.returns
returns c = numbers_are_apart
