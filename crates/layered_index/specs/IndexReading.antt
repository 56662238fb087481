-- The texts of an index, and whether they are the layers of one list.
use Rattle.std.specs.Prelude.{◌≡◌, ℕ, zero, suc, ◌-◌, ◌^◌, nat_lt, ◌==◌, if◌then◌else◌, List, [], ◌∷◌, length, take}
use Rattle.std.specs.Prelude.{drop, Option, Some, None}
use Rattle.store_base.specs.VInt.{◌>>=◌, number_below}
use Rattle.layered_index.specs.declared.checkpoint.Checkpoint.{Checkpoint}
use Rattle.layered_index.specs.Checkpoint.{IsInLine}
use Rattle.layered_index.specs.Layers.{digit_count, index_part}
use Rattle.layered_index.specs.LayerReading.{items, IsLayerBelow}

-- this many numbers
unfoldable pub numbers_at : ℕ → List ℕ → Option (List ℕ × List ℕ)
numbers_at zero bytes = Some ([], bytes)
numbers_at (suc more) bytes = number_below (2 ^ 64) bytes >>= λ n. numbers_at more n.1 >>= λ others. Some
    (n.0 ∷ others.0, others.1)

-- the texts that end there, the first from this place on; no byte follows them
unfoldable pub texts_at : ℕ → List ℕ → List ℕ → Option (List (List ℕ))
texts_at place [] bytes = if length bytes == 0 then Some [] else None
texts_at place (end ∷ ends) bytes =
    if nat_lt end place
    then None
    else (if nat_lt (length bytes) (end - place) then None else
    (texts_at end ends (drop (end - place) bytes) >>= λ others. Some (take (end - place) bytes ∷ others)))

-- Where the texts end, and the texts. There are at most 64 and, as an end takes a byte, no more than could follow.
unfoldable pub ends_at : List ℕ → Option (List ℕ × List ℕ)
ends_at bytes = number_below 65 bytes >>= λ count. if nat_lt
    (length count.1) count.0 then None else numbers_at count.0 count.1

-- the texts of an index, from the top down
unfoldable pub split_at : List ℕ → Option (List (List ℕ))
split_at bytes = ends_at bytes >>= λ ends. texts_at 0 ends.0 ends.1

-- From the top down each is a layer, and the one above points to its runs.
abbrev pub AreLayersBelow : ℕ → Option (List Checkpoint) → List (List ℕ) → Type 0
AreLayersBelow period above [] = Unit {0}
AreLayersBelow period above (t ∷ ts) = IsLayerBelow period above t × AreLayersBelow period (Some (items 0 0 0 t)) ts

-- the list that the last of these texts gives
abbrev pub last_items : List Checkpoint → List (List ℕ) → List Checkpoint
last_items cs [] = cs
last_items cs (t ∷ ts) = last_items (items 0 0 0 t) ts

-- They are layers, from the top down, and as many as the last has digits.
pub record AreLayers (period : ℕ) (ts : List (List ℕ)) : Type 0 where
  pub below : AreLayersBelow period None ts
  pub count : digit_count period (length (last_items [] ts)) ≡ length ts

-- These bytes are the index part of this list, which is in line.
abbrev pub IsIndexPart : ℕ → List ℕ → List Checkpoint → Type 0
IsIndexPart period bytes cs = IsInLine cs × (bytes ≡ index_part period cs)

-- They are that of some list.
abbrev pub HasIndex : ℕ → List ℕ → Type 0
HasIndex period bytes = (cs : List Checkpoint) × IsIndexPart period bytes cs
