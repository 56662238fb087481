-- Numbers of one byte or two, and of one more, at the front of bytes.
use Rattle.std.proofs.Common.{◌≡◌, ℕ, ◌+◌, ◌-◌, ◌*◌, ◌%◌, ◌<◌, ◌≤◌, Bool, true, false, List, [], ◌∷◌, length, get_or, take, drop, nat_lt, Some, sym, ◌∙◌, ap, arith}
use Rattle.std.proofs.lemmas.Bool.{ltb-true}
use Rattle.std.proofs.lemmas.List.{take_rest}
use Rattle.std.specs.Int.{from_bool}
use Rattle.store_base.specs.VInt.{number_at}
use Rattle.store_base.specs.ReadingLemmas.{last, longer}
use Rattle.layered_index.proofs.WalkLemmas.{positive}

-- the last byte is the second exactly where there are more than one
pub pair_read : (bytes : List ℕ) (more : Bool) (low high : ℕ) → nat_lt (get_or bytes 0 0) 128 ≡ more → 2 ≤ length bytes → 128 + from_bool more ≤ get_or bytes (from_bool more) 0
    → get_or bytes 0 0 < 256 → get_or bytes 1 0 < 256 → low ≡ get_or bytes 0 0 % 128 → high ≡ get_or bytes 1 0 % 128
    → number_at bytes ≡ Some (low + from_bool more * (128 * high), take (length bytes - (from_bool more + 1)) (drop (from_bool more + 1) bytes))
pair_read [] more low high t some le p q e f = absurd (omega arith)
pair_read (x ∷ []) more low high t some le p q e f = absurd (omega arith)
pair_read (x ∷ y ∷ bytes) false low high t some le p q e f =
    let value : x - 128 ≡ low + 0 * (128 * high) = omega (arith, e, le, p) in
    last x (y ∷ bytes) (omega (arith, le)) ∙ (λ i. Some (value i, sym (take_rest (x ∷ y ∷ bytes) 1) i))
pair_read (x ∷ y ∷ bytes) true low high t some le p q e f =
    let small : x < 128 = ltb-true x 128 t in
    let value : x + 128 * (y - 128) ≡ low + 1 * (128 * high) = omega (arith, e, f, le, q, small) in
    longer x (y ∷ bytes) bytes (y - 128) small (omega (arith, le)) (last y bytes (omega (arith, le))) ∙ (λ i. Some (value i, sym (take_rest (x ∷ y ∷ bytes) 2) i))

-- one byte more
pub longer_read : (bytes rest : List ℕ) (low high : ℕ) → 1 ≤ length bytes → get_or bytes 0 0 < 128 → low ≡ get_or bytes 0 0 → (high ≡ 0 → ⊥)
    → number_at (take (length bytes - 1) (drop 1 bytes)) ≡ Some (high, rest) → number_at bytes ≡ Some (low + 128 * high, rest)
longer_read [] rest low high some small e more read = absurd (omega arith)
longer_read (x ∷ bytes) rest low high some small e more read =
    longer x bytes rest high small (positive high more) (ap number_at (sym (take_rest (x ∷ bytes) 1)) ∙ read) ∙ ap (λ (n : ℕ). Some (n + 128 * high, rest)) (sym e)
