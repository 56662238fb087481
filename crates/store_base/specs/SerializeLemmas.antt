-- Numbers in a fixed count of bytes.
use Rattle.std.proofs.Common.{◌≡◌, ℕ, zero, suc, ◌*◌, ◌/◌, ◌%◌, ◌^◌, List, [], ◌∷◌, ◌++◌, length, refl, sym, ◌∙◌, ap}
use Rattle.std.proofs.Common.{arith}
use Rattle.std.proofs.Math.Nat.{pow-suc, pow-succ', div-div-eq-div-mul}
use Rattle.std.specs.Int.{bytes_low_first, byte_at}
use Rattle.store_base.specs.VIntLemmas.{heads, tails}
use Rattle.store_base.specs.Serialize.{fixed}
use Rattle.store_base.specs.Laws.{FixedNumbersAreApart}

-- a byte further up is a byte of what is left without the lowest
byte_above : (i n : ℕ) → byte_at (suc i) n ≡ byte_at i (n / 256)
byte_above zero n = refl
byte_above (suc i) n = ap (λ (q : ℕ). q % 256) (ap (λ (d : ℕ). n / d) (pow-succ' 256 (suc i))
    ∙ sym (div-div-eq-div-mul n 256 (256 ^ suc i)))

bytes_above : (k i n : ℕ) → bytes_low_first (suc i) k n ≡ bytes_low_first i k (n / 256)
bytes_above zero i n = refl
bytes_above (suc k) i n = λ j. byte_above i n j ∷ bytes_above k (suc i) n j

-- the lowest byte, and then the others
pub fixed_more : (k n : ℕ) → fixed (suc k) n ≡ (n % 256) ∷ fixed k (n / 256)
unfolding fixed
fixed_more k n = ap (λ (bytes : List ℕ). (n % 256) ∷ bytes) (bytes_above k 0 n)

fixed_none : (n : ℕ) → fixed 0 n ≡ []
unfolding fixed
fixed_none n = refl

pub length-fixed : (k n : ℕ) → length (fixed k n) ≡ k
length-fixed zero n = ap length (fixed_none n)
length-fixed (suc k) n = ap length (fixed_more k n) ∙ ap suc (length-fixed k (n / 256))

pub fixed_numbers_are_apart : FixedNumbersAreApart
fixed_numbers_are_apart zero m n r s a b e = (
  omega arith,
  sym (ap (λ (bytes : List ℕ). bytes ++ r) (fixed_none m)) ∙ e
      ∙ ap (λ (bytes : List ℕ). bytes ++ s) (fixed_none n),
)
fixed_numbers_are_apart (suc k) m n r s a b e =
    let power : 256 ^ suc k ≡ 256 ^ k * 256 = pow-suc 256 k in
    let cells : (m % 256) ∷ (fixed k (m / 256) ++ r) ≡ (n % 256) ∷ (fixed k (n / 256) ++ s) =
    sym (ap (λ (bytes : List ℕ). bytes ++ r) (fixed_more k m)) ∙ e
    ∙ ap (λ (bytes : List ℕ). bytes ++ s) (fixed_more k n) in
    let first = heads (m % 256) (n % 256) (fixed k (m / 256) ++ r) (fixed k (n / 256) ++ s) cells in
    let others = fixed_numbers_are_apart k (m / 256) (n / 256) r s (omega arith) (omega arith)
    (tails (m % 256) (n % 256) (fixed k (m / 256) ++ r) (fixed k (n / 256) ++ s) cells) in
    (omega (arith, first, others.0), others.1)
