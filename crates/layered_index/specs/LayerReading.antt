-- What the text of a layer gives, read from its front: its checkpoints, how many there are, and what points to its
-- runs.
use Rattle.std.specs.Prelude.{◌≡◌, ℕ, zero, suc, ◌+◌, ◌-◌, Bool, ◌&&◌, ◌||◌, nat_lt, nat_le, ◌==◌, if◌then◌else◌, List}
use Rattle.std.specs.Prelude.{[], ◌∷◌, length, Option, Some, None, IsSome}
use Rattle.std.specs.Option.{option_map_or}
use Rattle.store_base.specs.VInt.{◌>>=◌}
use Rattle.layered_index.specs.declared.checkpoint.Checkpoint.{Checkpoint}
use Rattle.layered_index.specs.declared.layers.Run.{Run}
use Rattle.layered_index.specs.Checkpoint.{checkpoint}
use Rattle.layered_index.specs.BlockReading.{step_at, heading_at, run_at}

-- the next checkpoint of a block, how many are left in it, and the bytes after it
unfoldable pub next_in_block : ℕ → ℕ → ℕ → List ℕ → Option (Checkpoint × ℕ × List ℕ)
next_in_block zero doc byte bytes = None
next_in_block (suc left) doc byte bytes = step_at doc byte bytes >>= λ c. Some (c.0, left, c.1)

-- the same, where after a block the next one begins
unfoldable pub next_at : ℕ → ℕ → ℕ → List ℕ → Option (Checkpoint × ℕ × List ℕ)
next_at zero doc byte bytes = heading_at bytes >>= λ h. next_in_block h.0.count h.0.doc h.0.byte h.1
next_at (suc left) doc byte bytes = next_in_block (suc left) doc byte bytes

-- at most this many checkpoints, where this many are left in a block and the next one begins at this document and this byte
unfoldable pub items_within : ℕ → ℕ → ℕ → ℕ → List ℕ → List Checkpoint
items_within zero left doc byte bytes = []
items_within (suc more) left doc byte bytes = option_map_or
    (λ n. n.0 ∷ items_within more n.1 n.0.doc_range.end n.0.byte_range.end n.2) (next_at left doc byte bytes) []

-- all of them; each takes a byte
unfoldable pub items : ℕ → ℕ → ℕ → List ℕ → List Checkpoint
items left doc byte bytes = items_within (length bytes) left doc byte bytes

-- whether a run may stand here, with this many bytes after it: only the last one is not full
abbrev pub may_stand : ℕ → ℕ → ℕ → Run → ℕ → Bool
may_stand period doc byte r bytes_left = (r.doc == doc) && (r.byte == byte) && nat_lt 0 r.count
    && nat_le r.count period && ((r.count == period) || (bytes_left == 0))

-- how many checkpoints there are in runs, which begin at this document and this byte
unfoldable pub len_within : ℕ → ℕ → ℕ → ℕ → List ℕ → Option ℕ
len_within zero period doc byte bytes = Some 0
len_within (suc more) period doc byte [] = Some 0
len_within (suc more) period doc byte (b ∷ bytes) =
    run_at (b ∷ bytes) >>= λ r. if may_stand period doc byte r.0 (length r.1) then
    (len_within more period r.0.doc_end r.0.byte_end r.1 >>= λ n. Some (r.0.count + n)) else None

unfoldable pub len_from : ℕ → ℕ → ℕ → List ℕ → Option ℕ
len_from period doc byte bytes = len_within (length bytes) period doc byte bytes

-- how many checkpoints a layer has
unfoldable pub len_at : ℕ → List ℕ → Option ℕ
len_at period bytes = heading_at bytes >>= λ h. len_from period h.0.doc h.0.byte bytes

-- what points to the runs, where the first of them is at this place
unfoldable pub pointers_within : ℕ → ℕ → List ℕ → List Checkpoint
pointers_within zero place bytes = []
pointers_within (suc more) place bytes =
    option_map_or (λ r. let after = place + (length bytes - length r.1) in
    checkpoint r.0.doc r.0.doc_end place after ∷ pointers_within more after r.1) (run_at bytes) []

unfoldable pub pointers_at : ℕ → List ℕ → List Checkpoint
pointers_at place bytes = pointers_within (length bytes) place bytes

-- The checkpoints of the layer above, if there is one, are these.
abbrev pub ArePointers : Option (List Checkpoint) → List Checkpoint → Type 0
ArePointers None pointers = Unit {0}
ArePointers (Some above) pointers = above ≡ pointers

-- The text is a layer, and the one above points to its runs.
abbrev pub IsLayerBelow : ℕ → Option (List Checkpoint) → List ℕ → Type 0
IsLayerBelow period above text = IsSome (len_at period text) × ArePointers above (pointers_at 0 text)
