use Rattle.std.proofs.Common.{◌≡◌, ◌++◌, None, take, drop}
use Rattle.layered_index.specs.Building.{texts_of, Closes, closed}
use Rattle.layered_index.proofs.skip_index_builder.close_layers.Given as goal

-- the layers so far are closed, and the others are to be
abbrev pub invariant-loop-layer : goal.invariant-loop-layer
invariant-loop-layer l = record {
  closes : Closes (drop l.layer-index l.layers) l.last_pointer;
  texts : texts_of (take l.layer-index l.layers) ++ closed (drop l.layer-index l.layers) l.last_pointer ≡ closed l.fn.layers None;
}
