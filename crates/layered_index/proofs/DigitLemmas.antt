-- Numbers by their digits in two bases.
use Rattle.std.proofs.Common.{ℕ, zero, suc, ◌+◌, ◌*◌, ◌/◌, ◌^◌, ◌≡◌, ◌<◌, ◌≤◌, length, refl, ap, ◌∙◌, subst, lit≤, arith}
use Rattle.std.proofs.lemmas.Int.Digits.{number_lt, all_below_base_digits_of, number_digits_of}
use Rattle.std.proofs.Math.Nat.{pow-suc, pow-zero, pow-le-pow_right}
use Rattle.std.proofs.lemmas.Nat.{mul-le, pow-add}
use Rattle.std.specs.Int.Digits.{digits_of}
use Rattle.layered_index.specs.Layers.{digit_count}
use Rattle.layered_index.proofs.IndexLemmas.{digit_count-le}

-- a number is below its base to the number of its digits
pub below_digits : (base n : ℕ) → 2 ≤ base → n < base ^ digit_count base n
unfolding digit_count
below_digits base n two = subst (λ (m : ℕ). m < base ^ length (digits_of base n)) (number_digits_of base n two) (number_lt base (digits_of base n) (all_below_base_digits_of base n two))

below_own_power : (p : ℕ) → p < 2 ^ p
below_own_power zero = omega (arith, pow-zero 2)
below_own_power (suc p) = omega (arith, below_own_power p, pow-suc 2 p)

-- so many digits of a base are at most so many binary ones for each
powers : (base exponent count : ℕ) → base ≤ 2 ^ exponent → base ^ count ≤ 2 ^ (exponent * count)
powers base exponent zero le = subst (λ (m : ℕ). base ^ 0 ≤ 2 ^ m) (zero_of exponent) (omega (arith, pow-zero base, pow-zero 2))
  where
    zero_of : (exponent : ℕ) → 0 ≡ exponent * 0
    zero_of exponent = omega arith
powers base exponent (suc count) le =
    let more : exponent * suc count ≡ exponent * count + exponent = omega arith in
    let both = mul-le (base ^ count) base (2 ^ (exponent * count)) (2 ^ exponent) (powers base exponent count le) le in
    let power : 2 ^ (exponent * suc count) ≡ 2 ^ (exponent * count) * 2 ^ exponent = ap (λ (k : ℕ). 2 ^ k) more ∙ pow-add 2 (exponent * count) exponent in
    omega (arith, pow-suc base count, both, power)

digits_by_exponent : (base exponent n : ℕ) → 2 ≤ base → base ≤ 2 ^ exponent → digit_count 2 n ≤ exponent * digit_count base n
digits_by_exponent base exponent n two le =
    digit_count-le 2 (exponent * digit_count base n) n (omega arith) (omega (arith, below_digits base n two, powers base exponent (digit_count base n) le))

-- A number has at most so many binary digits for each of its digits in a base as the base is.
pub binary_digits : (base n : ℕ) → 2 ≤ base → digit_count 2 n ≤ base * digit_count base n
binary_digits base n two = digits_by_exponent base base n two (omega (arith, below_own_power base))

-- a base is at most a power of two whose exponent is two thirds of it
exponent_of : (base : ℕ) → 2 ≤ base → (exponent : ℕ) × (base ≤ 2 ^ exponent) × (3 * exponent ≤ 2 * base)
exponent_of zero two = absurd (omega arith)
exponent_of (suc zero) two = absurd (omega arith)
exponent_of (suc (suc zero)) two = (1, lit≤ tt, lit≤ tt)
exponent_of (suc (suc (suc zero))) two = (2, lit≤ tt, lit≤ tt)
exponent_of (suc (suc (suc (suc less)))) two =
    let below = exponent_of (suc (suc less)) (omega arith) in
    (suc below.0, omega (arith, pow-suc 2 below.0, below.1), omega (arith, below.2))

-- So two thirds as many times are enough.
pub binary_digits_in_thirds : (base n : ℕ) → 2 ≤ base → 3 * digit_count 2 n ≤ 2 * (base * digit_count base n)
binary_digits_in_thirds base n two =
    let power = exponent_of base two in
    let count = digit_count base n in
    let times : 3 * power.0 * count ≤ 2 * base * count = mul-le (3 * power.0) count (2 * base) count power.2 (omega arith) in
    omega (arith, digits_by_exponent base power.0 n two power.1, times)

four_to : (count : ℕ) → 4 ^ count ≡ 2 ^ (2 * count)
four_to zero = refl
four_to (suc count) =
    let more : 2 * suc count ≡ suc (suc (2 * count)) = omega arith in
    let power : 2 ^ (2 * suc count) ≡ 2 ^ suc (suc (2 * count)) = ap (λ (k : ℕ). 2 ^ k) more in
    omega (arith, pow-suc 4 count, four_to count, power, pow-suc 2 (suc (2 * count)), pow-suc 2 (2 * count))

-- half as many digits in base 4
pub digits_by_fours : (n : ℕ) → 2 * digit_count 4 n ≤ digit_count 2 n + 1
digits_by_fours n =
    let half = (digit_count 2 n + 1) / 2 in
    let grown : 2 ^ digit_count 2 n ≤ 2 ^ (2 * half) = pow-le-pow_right {n = 2} (omega arith) {i = digit_count 2 n} {j = 2 * half} (omega arith) in
    let few = digit_count-le 4 half n (omega arith) (omega (arith, below_digits 2 n (omega arith), grown, four_to half)) in
    omega (arith, few)
