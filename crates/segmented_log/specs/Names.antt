-- The names of a log's files.
use Rattle.std.specs.Prelude.{ℕ, zero, suc, ◌+◌, ◌/◌, ◌%◌, Bool, nat_eq, List, [], ◌∷◌, ◌++◌, codes}
use Rattle.std.specs.List.{list_any}
use lib.Pointwise.{pointwise}

-- the last digits of a number, this many of them, the highest first
abbrev pub digits : ℕ → ℕ → List ℕ
digits zero n = []
digits (suc width) n = digits width (n / 10) ++ (48 + n % 10) ∷ []

-- the name of the segment whose first record has this number
unfoldable pub segment_name : ℕ → List ℕ
segment_name first = digits 20 first ++ codes ".store"

-- the name of a file that keeps bytes which were cut off a tail
unfoldable pub cut_name : ℕ → List ℕ
cut_name n = codes "tail.cut." ++ digits 20 n

-- whether a name is among these
abbrev pub is_among : List (List ℕ) → List ℕ → Bool
is_among names n = list_any (pointwise nat_eq n) names

-- the name of the tail
abbrev pub tail_name : List ℕ
tail_name = codes "tail.log"
