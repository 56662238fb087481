use Rattle.std.proofs.Common.{◌≡◌, ◌++◌, length, reverse}
use Rattle.std.specs.List.{flat_map}
use Rattle.store_base.specs.VInt.{number}
use Rattle.layered_index.specs.Layers.{ends_from}
use Rattle.layered_index.specs.Building.{texts_of}
use Rattle.layered_index.proofs.skip_index_builder.index_head.Given as goal

-- the ends so far, and those to come
abbrev pub invariant-loop-layer : goal.invariant-loop-layer
invariant-loop-layer l =
    let left = reverse (texts_of l.layer-iterator.iter.rest.now) in
    l.head.items ++ flat_map number (ends_from l.end left) ≡ number (length l.layers) ++ flat_map number (ends_from 0 (reverse (texts_of l.layers)))
