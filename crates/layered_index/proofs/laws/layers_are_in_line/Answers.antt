use Rattle.layered_index.proofs.LayerLemmas.{layers_are_in_line}
use Rattle.layered_index.proofs.laws.layers_are_in_line.Goals as goal

pub returns : goal.returns
returns c = layers_are_in_line
