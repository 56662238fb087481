-- The slots of a store, in the order of the ids.
use Rattle.std.specs.Prelude.{List, map}
use Rattle.std.specs.List.{flat_map, range_with_len}
use Rattle.store_format.specs.Block.{Slot, slot}
use Rattle.store_format.specs.StoreFile.{StoreBlock}

-- each block's, from its first document to its last
abbrev pub slots : List StoreBlock → List Slot
slots bs = flat_map (λ b. map (slot b.bytes) (range_with_len 0 b.count)) bs
