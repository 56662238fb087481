-- The bytes of a block of documents, and the slot of each of its documents.
use Rattle.std.specs.Prelude.{ℕ, ◌+◌, ◌-◌, ◌*◌, Bool, ◌&&◌, nat_lt, nat_le, if◌then◌else◌, List, [], ◌∷◌, ◌++◌, length}
use Rattle.std.specs.Prelude.{slice_range}
use Rattle.std.specs.List.{flat_map, concat}
use Rattle.std.specs.Int.{w32, from_le_bytes}
use Rattle.store_base.specs.Serialize.{fixed}

-- where each document begins, if they lie one after the other from this place on
abbrev pub starts_from : ℕ → List (List ℕ) → List ℕ
starts_from place [] = []
starts_from place (doc ∷ docs) = place ∷ starts_from (place + length doc) docs

-- the documents, where each begins, and how many there are
abbrev pub block : List (List ℕ) → List ℕ
block docs = concat docs ++ flat_map (fixed 4) (starts_from 0 docs) ++ fixed 4 (length docs)

-- what a block has at the place of a document
pub data Slot : Type 0 where
  doc : List ℕ → Slot
  damaged : Slot

-- the number of four bytes at this place
unfoldable pub u32_at : List ℕ → ℕ → ℕ
u32_at bytes place = from_le_bytes w32 (slice_range bytes place (place + 4))

-- how many documents a block says that it has
abbrev pub count_of : List ℕ → ℕ
count_of bytes = u32_at bytes (length bytes - 4)

-- where the table of the starts begins
abbrev pub table_of : List ℕ → ℕ
table_of bytes = length bytes - 4 * (count_of bytes + 1)

-- where document j begins, and where it ends
abbrev pub start_of : List ℕ → ℕ → ℕ
start_of bytes j = u32_at bytes (table_of bytes + 4 * j)

abbrev pub end_of : List ℕ → ℕ → ℕ
end_of bytes j = if nat_lt (j + 1) (count_of bytes) then start_of bytes (j + 1) else table_of bytes

-- the table lies in the block, and document j before the table
abbrev pub is_sound : List ℕ → ℕ → Bool
is_sound bytes j =
    nat_le 4 (length bytes) && nat_le (4 * (count_of bytes + 1)) (length bytes) && nat_lt j (count_of bytes) && nat_le
    (start_of bytes j) (end_of bytes j) && nat_le (end_of bytes j) (table_of bytes)

-- document j of a block, whatever bytes the block has
abbrev pub slot : List ℕ → ℕ → Slot
slot bytes j = if is_sound bytes j then doc (slice_range bytes (start_of bytes j) (end_of bytes j)) else damaged
