-- Values as bytes: fixed numbers and lists of numbers.
use Rattle.std.specs.Prelude.{ℕ, ◌<◌, nat_lt, if◌then◌else◌, List, ◌++◌, length, take, drop, Option, Some, None}
use Rattle.std.specs.List.{flat_map, AllByRecursion}
use Rattle.std.specs.Int.{Width, byte_len, bytes_low_first, from_le_bytes}
use Rattle.store_base.specs.VInt.{number}

-- each is a byte
abbrev pub IsBytes : List ℕ → Type 0
IsBytes bytes = AllByRecursion (λ b. b < 256) bytes

-- n in this many bytes, the lowest first
unfoldable pub fixed : ℕ → ℕ → List ℕ
fixed bytes n = bytes_low_first 0 bytes n

-- the fixed number at the front, and the bytes after it
abbrev pub fixed_at : Width → List ℕ → Option (ℕ × List ℕ)
fixed_at w bytes = if nat_lt (length bytes) (byte_len w) then None else Some (
  from_le_bytes w (take (byte_len w) bytes),
  drop (byte_len w) bytes,
)

-- how many numbers there are, and then each
abbrev pub numbers : List ℕ → List ℕ
numbers ns = number (length ns) ++ flat_map number ns
