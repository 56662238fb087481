use Rattle.store_reader.proofs.ExactLemmas.{answers_are_exact}
use Rattle.store_reader.proofs.laws.answers_are_exact.Goals as goal

pub returns : goal.returns
returns c = answers_are_exact
