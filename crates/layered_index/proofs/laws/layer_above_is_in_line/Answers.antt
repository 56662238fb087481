use Rattle.layered_index.proofs.LayerLemmas.{layer_above_is_in_line}
use Rattle.layered_index.proofs.laws.layer_above_is_in_line.Goals as goal

pub returns : goal.returns
returns c = layer_above_is_in_line
