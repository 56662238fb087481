use Rattle.store_base.specs.SerializeLemmas.{fixed_numbers_are_apart}
use Rattle.store_base.proofs.laws.fixed_numbers_are_apart.Goals as goal

pub returns : goal.returns
returns c = fixed_numbers_are_apart
