use Rattle.layered_index.proofs.IndexLemmas.{index_parts_are_apart}
use Rattle.layered_index.proofs.laws.index_parts_are_apart.Goals as goal

pub returns : goal.returns
returns c = index_parts_are_apart
