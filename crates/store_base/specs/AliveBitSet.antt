-- Which documents are alive: a flag for each, kept as the bits of words of 64.
use Rattle.std.specs.Prelude.{ℕ, zero, suc, ◌/◌, ◌%◌, ◌==◌, List, [], ◌∷◌, Bool, false, slice_index_or}
use Rattle.std.specs.Int.{bit_at}

-- a document at or past the end is not alive
abbrev pub is_alive_at : List Bool → ℕ → Bool
is_alive_at set id = slice_index_or set id false

-- whether a document's bit is set
abbrev pub is_bit_set : List ℕ → ℕ → Bool
is_bit_set words id = bit_at (slice_index_or words (id / 64) 0) (id % 64) == 1

-- the flags of this many documents, from this one on
unfoldable pub flags_from : ℕ → ℕ → List ℕ → List Bool
flags_from zero id words = []
flags_from (suc more) id words = is_bit_set words id ∷ flags_from more (suc id) words
