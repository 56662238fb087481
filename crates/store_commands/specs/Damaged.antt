-- Which documents of a store are damaged.
use Rattle.std.specs.Prelude.{ℕ, Bool, ◌&&◌, nat_eq, List}
use Rattle.std.specs.List.{list_any, enumerate_from}
use Rattle.store_format.specs.Block.{Slot}
use Rattle.store_format.specs.Slots.{slots}
use Rattle.store_reader.specs.Reading.{Reading, store_of}
use Rattle.store_commands.specs.Checks.{is_damaged}

-- whether an id is that of a damaged slot; the first of these slots has this id
abbrev pub damaged_from : ℕ → List Slot → ℕ → Bool
damaged_from first all id = list_any (λ x. nat_eq x.0 id && is_damaged x.1) (enumerate_from first all)

-- whether a document of a store is damaged
abbrev pub is_damaged_in : Reading → ℕ → Bool
is_damaged_in reader id = damaged_from 0 (slots (store_of reader)) id
