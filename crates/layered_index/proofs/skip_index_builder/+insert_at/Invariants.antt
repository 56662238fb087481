use Rattle.std.proofs.Common.{◌-◌, length}
use Rattle.layered_index.proofs.skip_index_builder.+insert_at.Given as goal

-- the layers from this one on
abbrev pub decreases-insert_at : goal.decreases-insert_at
decreases-insert_at l = length l.layers.now.items - l.at
