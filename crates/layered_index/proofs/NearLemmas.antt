-- What a seek from a guess on looks at.
use Rattle.std.proofs.Common.{ℕ, zero, suc, ◌+◌, ◌*◌, ◌/◌, ◌≡◌, ◌<◌, ◌≤◌, refl, ap, arith}
use Rattle.std.proofs.lemmas.Nat.{mul-le}
use Rattle.layered_index.specs.Layers.{digit_count}
use Rattle.layered_index.specs.Seeking.{looks_to_spare}
use Rattle.layered_index.proofs.IndexLemmas.{digit_count_zero, digit_count_more}
use Rattle.layered_index.proofs.DigitLemmas.{binary_digits_in_thirds, digits_by_fours}

-- a number of eight and more has three binary digits more than its eighth
three_more : (n : ℕ) → 8 ≤ n → digit_count 2 n ≡ digit_count 2 (n / 8) + 3
three_more n eight =
    let eighth : n / 2 / 2 / 2 ≡ n / 8 = omega arith in
    omega (
      arith,
      digit_count_more 2 n (omega arith) (omega arith),
      digit_count_more 2 (n / 2) (omega arith) (omega arith),
      digit_count_more 2 (n / 2 / 2) (omega arith) (omega arith),
      ap (digit_count 2) eighth,
    )

-- a number that is not 0 has a digit, so its digits times the base are two at least
two_at_least : (base n : ℕ) → 2 ≤ base → 0 < n → 2 ≤ base * digit_count base n
two_at_least base n two some =
    let one : 1 ≤ digit_count base n = omega (arith, digit_count_more base n two some) in
    omega (arith, mul-le 2 1 base (digit_count base n) two one)

-- the looks to spare, where an eighth of the list is so many
spare_within : (base n eighth : ℕ) → 2 ≤ base → 0 < n → n / 8 ≡ eighth → digit_count 2 n + digit_count 4 eighth + 1 ≤ base * digit_count base n
spare_within base n zero two some e =
    omega (arith, digit_count_zero 4, binary_digits_in_thirds base n two, two_at_least base n two some)
spare_within base n (suc eighth) two some e =
    omega (arith, binary_digits_in_thirds base n two, digits_by_fours (suc eighth), three_more n (omega arith), ap (digit_count 2) e)

-- Halving, the looks to spare and one more are within the bound of halving in any base.
pub near_looks : (base n : ℕ) → 2 ≤ base → 0 < n → digit_count 2 n + looks_to_spare n + 1 ≤ base * digit_count base n
near_looks base n two some = spare_within base n (n / 8) two some refl

pub near_looks_but_one : (base n : ℕ) → 2 ≤ base → digit_count 2 n + looks_to_spare n ≤ base * digit_count base n
near_looks_but_one base zero two = omega (arith, digit_count_zero 2, digit_count_zero 4, digit_count_zero base)
near_looks_but_one base (suc n) two = omega (arith, near_looks base (suc n) two (omega arith))

-- one to spare is taken
pub spare_taken : (spare : ℕ) → 0 < spare → digit_count 4 (spare / 4) + 1 ≤ digit_count 4 spare
spare_taken spare some = omega (arith, digit_count_more 4 spare (omega arith) some)
