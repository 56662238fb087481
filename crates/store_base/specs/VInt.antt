-- A number in groups of seven bits: its spelling, and the number at the front of bytes.
use Rattle.std.specs.Prelude.{ℕ, zero, suc, ◌+◌, ◌-◌, ◌*◌, ◌/◌, ◌%◌, nat_lt, nat_le, ◌==◌, if◌then◌else◌, List, [], ◌∷◌}
use Rattle.std.specs.Prelude.{Option, Some, None}

-- The lowest group first; the last byte alone has 128 added. There are at most this many bytes before the last. What
-- `let` names
-- is not computed before it is needed.
unfoldable pub number_within : ℕ → ℕ → List ℕ
number_within zero n = (n + 128) ∷ []
number_within (suc bytes) n =
    let longer = (n % 128) ∷ number_within bytes (n / 128) in
    if nat_lt n 128 then (n + 128) ∷ [] else longer

-- the spelling of n; n is more than enough bytes
unfoldable pub number : ℕ → List ℕ
number n = number_within n n

-- Reading gives a value and the bytes after it.
infixl 10 ◌>>=◌
abbrev pub ◌>>=◌ : {A B : Type 0} → Option A → (A → Option B) → Option B
(Some x) >>= f = f x
None >>= f = None

-- A number in front, in its one spelling: after a byte below 128 the rest is not 0.
unfoldable pub number_at : List ℕ → Option (ℕ × List ℕ)
number_at [] = None
number_at (b ∷ bytes) = if nat_le 128 b then Some (
  b - 128,
  bytes,
) else number_at bytes >>= λ high. if high.0 == 0 then None else Some (b + 128 * high.0, high.1)

-- the same, below a limit
abbrev pub number_below : ℕ → List ℕ → Option (ℕ × List ℕ)
number_below limit bytes = number_at bytes >>= λ n. if nat_lt n.0 limit then Some n else None
