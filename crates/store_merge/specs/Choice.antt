-- Which inputs of a merge are stacked, and what is alive in them.
use Rattle.std.specs.Prelude.{ℕ, nat_le, Bool, true, false, ◌&&◌, List, length, Option}
use Rattle.std.specs.List.{list_all, position, range_with_len}
use Rattle.store_format.specs.declared.version.DocStoreVersion.{DocStoreVersion}
use Rattle.store_format.specs.declared.version.DocStoreVersion.TheVariants.{V1, V2, V3}
use Rattle.store_format.specs.Block.{Slot}
use Rattle.store_reader.specs.Iteration.{is_in, alive, flags_of}
use Rattle.store_reader.specs.Reading.{Reading, num_docs, store_of}
use Rattle.store_format.specs.Slots.{slots}
use Rattle.store_merge.specs.declared.input.MergeInput.{MergeInput}

-- whether an input is stacked: it has at least six blocks, and each id below its count is alive
abbrev pub is_stacked : {H : Type 0} → MergeInput H → Bool
is_stacked x = nat_le 6 (length x.reader.checkpoints) && list_all (is_in (flags_of x.alive))
    (range_with_len 0 (num_docs x.reader))

-- the slots of a store that are alive
abbrev pub alive_of : Reading → Option (ℕ → Bool) → List Slot
alive_of reader set = alive (slots (store_of reader)) set

-- the slots of an input that are alive
abbrev pub alive_slots : {H : Type 0} → MergeInput H → List Slot
alive_slots x = alive_of x.reader (flags_of x.alive)

-- whether a version is the first
abbrev pub is_first_version : DocStoreVersion → Bool
is_first_version V1 = true
is_first_version V2 = false
is_first_version V3 = false

-- the lowest place of an input of version 1
abbrev pub first_old : {H : Type 0} → List (MergeInput H) → Option ℕ
first_old inputs = position (λ x. is_first_version x.reader.version) inputs
