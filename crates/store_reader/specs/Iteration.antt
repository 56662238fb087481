-- What going over a store gives, and which blocks it looks up.
use Rattle.std.specs.Prelude.{ℕ, ◌-◌, Bool, true, if◌then◌else◌, nat_le, List, [], ◌∷◌, map, Option, Some, None}
use Rattle.std.specs.List.{filter, count_by, enumerate_from, range_with_len}
use Rattle.store_base.specs.AliveBitSet.{is_alive_at}
use Rattle.layered_index.specs.declared.checkpoint.Checkpoint.{Checkpoint}
use Rattle.layered_index.specs.Checkpoint.{doc_count}
use Rattle.store_format.specs.Block.{Slot}
use Rattle.store_format.specs.StoreFile.{StoreBlock, checkpoints_of}

-- whether an id is in the set; without a set each is
abbrev pub is_in : Option (ℕ → Bool) → ℕ → Bool
is_in None id = true
is_in (Some set) id = set id

-- the set of the ids that are alive
abbrev pub flags_of : Option (List Bool) → Option (ℕ → Bool)
flags_of None = None
flags_of (Some alive) = Some (is_alive_at alive)

-- those of these slots that are in the set; the first one has this id
abbrev pub alive_from : ℕ → List Slot → Option (ℕ → Bool) → List Slot
alive_from first slots set = map (λ x. x.1) (filter (λ x. is_in set x.0) (enumerate_from first slots))

-- the slots whose id is in the set, in order
abbrev pub alive : List Slot → Option (ℕ → Bool) → List Slot
alive all set = map (λ x. x.1) (filter (λ x. is_in set x.0) (enumerate_from 0 all))

-- how many ids of a block are in the set
abbrev pub alive_count : Option (ℕ → Bool) → Checkpoint → ℕ
alive_count set c = count_by (is_in set) (range_with_len c.doc_range.start (doc_count c))

-- The first byte of each block up to the one that has the last of this many ids of the set.
abbrev pub looked_along : List Checkpoint → Option (ℕ → Bool) → ℕ → List ℕ
looked_along [] set count = []
looked_along (c ∷ cs) set count = c.byte_range.start ∷
    (if nat_le count (alive_count set c) then [] else looked_along cs set (count - alive_count set c))

-- the keys that an iterator looks up that is dropped after this many items
abbrev pub looked : List StoreBlock → Option (ℕ → Bool) → ℕ → List ℕ
looked bs set count = looked_along (checkpoints_of bs) set count

-- how many ids below this one are in the set
abbrev pub alive_below : Option (ℕ → Bool) → ℕ → ℕ
alive_below set id = count_by (is_in set) (range_with_len 0 id)

-- the keys of these blocks, in order
abbrev pub keys_along : List Checkpoint → List ℕ
keys_along cs = map (λ c. c.byte_range.start) cs
