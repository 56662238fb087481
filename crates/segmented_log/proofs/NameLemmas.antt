-- The names of a log's files differ.
use Rattle.std.proofs.Common.{◌≡◌, ◌≢◌, ◌⊎◌, ⊎_elim, ℕ, List, zero, suc, ◌+◌, ◌*◌, ◌/◌, ◌%◌, ◌^◌, ◌<◌, ◌++◌, length, refl, ap, arith, length-append}
use Rattle.std.specs.Prelude.{codes}
use Rattle.std.proofs.lemmas.List.{append_cancel_right, same_from_push, length_push}
use Rattle.store_folder.specs.Publishing.{part}
use Rattle.segmented_log.specs.Names.{digits, segment_name, cut_name, tail_name}

pub length-digits : (width n : ℕ) → length (digits width n) ≡ width
length-digits zero n = refl
length-digits (suc width) n = omega (arith, length_push (digits width (n / 10)) (48 + n % 10), length-digits width (n / 10))

pub digits_apart : (width m n : ℕ) → m < 10 ^ width → n < 10 ^ width → digits width m ≡ digits width n → m ≡ n
digits_apart zero m n low_m low_n same = omega (arith, low_m, low_n)
digits_apart (suc width) m n low_m low_n same =
    let parts = same_from_push (digits width (m / 10)) (digits width (n / 10)) (48 + m % 10) (48 + n % 10) same in
    let power : 10 ^ suc width ≡ 10 * 10 ^ width = grind arith in
    let low_m' : m < 10 * 10 ^ width = omega (arith, low_m, power) in
    let low_n' : n < 10 * 10 ^ width = omega (arith, low_n, power) in
    let tens : m / 10 ≡ n / 10 = digits_apart width (m / 10) (n / 10) (omega (arith, low_m')) (omega (arith, low_n')) parts.0 in
    omega (arith, tens, parts.1)

pub length-segment_name : (n : ℕ) → length (segment_name n) ≡ 26
unfolding segment_name
length-segment_name n =
    let six : length (codes ".store") ≡ 6 = refl in
    omega (arith, length-append (digits 20 n) (codes ".store"), length-digits 20 n, six)

pub segments_apart : (m n : ℕ) → m < 2 ^ 64 → n < 2 ^ 64 → segment_name m ≡ segment_name n → m ≡ n
unfolding segment_name
segments_apart m n low_m low_n same =
    digits_apart 20 m n (omega (arith, low_m)) (omega (arith, low_n)) (append_cancel_right (digits 20 m) (digits 20 n) (codes ".store") same)

pub length-cut_name : (n : ℕ) → length (cut_name n) ≡ 29
unfolding cut_name
length-cut_name n =
    let nine : length (codes "tail.cut.") ≡ 9 = refl in
    omega (arith, length-append (codes "tail.cut.") (digits 20 n), length-digits 20 n, nine)

length-tail_name : length tail_name ≡ 8
length-tail_name = refl

length-part : length part ≡ 5
length-part = refl

pub segment_no_tail : (n : ℕ) → segment_name n ≢ tail_name
segment_no_tail n same = absurd (omega (arith, ap length same, length-segment_name n, length-tail_name))

pub beside_no_segment : (m n : ℕ) → segment_name n ≢ segment_name m ++ part
beside_no_segment m n same = absurd (omega (arith, ap length same, length-segment_name n, length-append (segment_name m) part, length-segment_name m, length-part))

pub beside_no_tail : (m : ℕ) → tail_name ≢ segment_name m ++ part
beside_no_tail m same = absurd (omega (arith, ap length same, length-tail_name, length-append (segment_name m) part, length-segment_name m, length-part))

pub segment_no_tail_beside : (n : ℕ) → segment_name n ≢ tail_name ++ part
segment_no_tail_beside n same = absurd (omega (arith, ap length same, length-segment_name n, length-append tail_name part, length-tail_name, length-part))

-- a name of a cut is none of a log's files, nor of one beside them or it
pub cut_no_tail : (n : ℕ) → cut_name n ≢ tail_name
cut_no_tail n same = absurd (omega (arith, ap length same, length-cut_name n, length-tail_name))

pub cut_no_tail_beside : (n : ℕ) → cut_name n ≢ tail_name ++ part
cut_no_tail_beside n same = absurd (omega (arith, ap length same, length-cut_name n, length-append tail_name part, length-tail_name, length-part))

pub cut_no_beside : (n : ℕ) → cut_name n ++ part ≢ cut_name n
cut_no_beside n same = absurd (omega (arith, ap length same, length-cut_name n, length-append (cut_name n) part, length-part))

pub log_no_cut : (m n : ℕ) (name : List ℕ) → (name ≡ tail_name) ⊎ (name ≡ segment_name m) → (name ≢ cut_name n) × (name ≢ cut_name n ++ part)
log_no_cut m n name of = (
  λ same. ⊎_elim (λ is. absurd (omega (arith, ap length same, length-cut_name n, ap length is, length-tail_name)))
      (λ is. absurd (omega (arith, ap length same, length-cut_name n, ap length is, length-segment_name m))) of,
  λ same. ⊎_elim (λ is. absurd (omega (arith, ap length same, length-append (cut_name n) part, length-part, length-cut_name n, ap length is, length-tail_name)))
      (λ is. absurd (omega (arith, ap length same, length-append (cut_name n) part, length-part, length-cut_name n, ap length is, length-segment_name m))) of,
)
