-- Digits, one more at a time.
use Rattle.std.proofs.Common.{◌≡◌, ◌≢◌, ◌⊎◌, inl, inr, ℕ, zero, suc, ◌+◌, ◌*◌, ◌/◌, ◌%◌, ◌^◌, ◌-◌, ◌<◌, ◌≤◌, List, [], ◌∷◌, ◌++◌, length, take, get_or, sym, ◌∙◌, ap, subst, arith, add-one}
use Rattle.std.specs.Prelude.{All}
use Rattle.std.proofs.lemmas.List.{take_more}
use Rattle.std.proofs.lemmas.List.Elements.{All-push, All-nil, All-get_or}
use Rattle.std.proofs.lemmas.Bool.{cases_lt}
use Rattle.segmented_log.specs.Names.{digits, segment_name}
use Rattle.std.specs.List.{Contains}
use Rattle.std.proofs.Common.{⊎_elim}
use Rattle.std.proofs.lemmas.List.Elements.{Contains-append_left, Contains-push, Contains-push_cases}
use Rattle.segmented_log.specs.Opening.{AreNumbersIn}
use Rattle.segmented_log.proofs.NameLemmas.{segments_apart}

abbrev pub IsDigit : ℕ → Type 0
IsDigit b = (48 ≤ b) × (b ≤ 57)

digits_are : (width n : ℕ) → All IsDigit (digits width n)
digits_are zero n = All-nil IsDigit
digits_are (suc width) n = All-push IsDigit (digits width (n / 10)) (48 + n % 10) (digits_are width (n / 10)) (omega arith, omega arith)

-- a byte that is no digit
pub no_digit : (bytes : List ℕ) (i b n : ℕ) → i < length bytes → b ≡ get_or bytes i 0 → (IsDigit b → ⊥) → bytes ≢ digits (length bytes) n
no_digit bytes i b n within is bad same =
    let all : All IsDigit bytes = subst (All IsDigit) (sym same) (digits_are (length bytes) n) in
    bad (subst IsDigit (sym is) (All-get_or IsDigit bytes i 0 within all))

-- one digit more
pub digits_more : (width n b : ℕ) → 48 ≤ b → b ≤ 57 → digits (width + 1) (n * 10 + (b - 48)) ≡ digits width n ++ b ∷ []
digits_more width n b low high =
    let tens : (n * 10 + (b - 48)) / 10 ≡ n = omega (arith, low, high) in
    let ones : 48 + (n * 10 + (b - 48)) % 10 ≡ b = omega (arith, low, high) in
    ap (λ (w : ℕ). digits w (n * 10 + (b - 48))) (add-one width)
    ∙ (λ i. digits width (tens i) ++ ones i ∷ [])

pub digits_step : (bytes : List ℕ) (i n b : ℕ) → i < length bytes → b ≡ get_or bytes i 0 → 48 ≤ b → b ≤ 57 → take i bytes ≡ digits i n → take (i + 1) bytes ≡ digits (i + 1) (n * 10 + (b - 48))
digits_step bytes i n b within is low high so_far =
    take_more bytes i 0 within ∙ (λ j. so_far j ++ (sym is) j ∷ []) ∙ sym (digits_more i n b low high)

pub power_step : (i n b : ℕ) → n < 10 ^ i → b ≤ 57 → n * 10 + (b - 48) < 10 ^ (i + 1)
power_step i n b low high =
    let power : 10 ^ suc i ≡ 10 * 10 ^ i = grind arith in
    subst (λ (k : ℕ). n * 10 + (b - 48) < 10 ^ k) (sym (add-one i)) (omega (arith, power, low, high))

pub power_le : (i k : ℕ) → i ≤ k → 10 ^ i ≤ 10 ^ k
power_le i zero le = subst (λ (n : ℕ). 10 ^ n ≤ 10 ^ 0) (sym (zero_is i le)) (omega arith)
  where
    zero_is : (j : ℕ) → j ≤ 0 → j ≡ 0
    zero_is j none = omega (arith, none)
power_le i (suc k) le = at_or_below (either i k le) (λ under. power_le i k under)
  where
    power : 10 ^ suc k ≡ 10 * 10 ^ k
    power = grind arith

    either : (j m : ℕ) → j ≤ suc m → (j ≡ suc m) ⊎ (j ≤ m)
    either j m below = elim (cases_lt m j) [ inl above ↦ inl (omega (arith, above, below)) | inr under ↦ inr under ]

    at_or_below : (i ≡ suc k) ⊎ (i ≤ k) → (i ≤ k → 10 ^ i ≤ 10 ^ k) → 10 ^ i ≤ 10 ^ suc k
    at_or_below (inl same) smaller = subst (λ (n : ℕ). 10 ^ n ≤ 10 ^ suc k) (sym same) (omega arith)
    at_or_below (inr under) smaller = omega (arith, power, smaller under)

-- a name that is no segment's
pub numbers_same : (names : List (List ℕ)) (numbers name : List ℕ) → ((n : ℕ) → n < 2 ^ 64 → name ≢ segment_name n) → AreNumbersIn names numbers → AreNumbersIn (names ++ name ∷ []) numbers
numbers_same names numbers name other known = record {
  each = λ k low among. ⊎_elim (λ before. known.each k low before) (λ is. absurd (other k low is)) (Contains-push_cases names name (segment_name k) among);
  only = λ k among. Contains-append_left names (name ∷ []) (segment_name k) (known.only k among);
  fits = known.fits;
}

-- a segment's name
pub numbers_more : (names : List (List ℕ)) (numbers name new : List ℕ) (number : ℕ) → name ≡ segment_name number → number < 2 ^ 64 → new ≡ numbers ++ number ∷ [] → AreNumbersIn names numbers
    → AreNumbersIn (names ++ name ∷ []) new
numbers_more names numbers name new number is fits new_is known = record {
  each = λ k low among. subst (λ (l : List ℕ). Contains l k) (sym new_is) (⊎_elim
      (λ before. Contains-append_left numbers (number ∷ []) k (known.each k low before))
      (λ same. subst (λ (n : ℕ). Contains (numbers ++ number ∷ []) n) (segments_apart number k fits low (sym is ∙ same)) (Contains-push numbers number))
      (Contains-push_cases names name (segment_name k) among));
  only = λ k among. ⊎_elim
      (λ before. Contains-append_left names (name ∷ []) (segment_name k) (known.only k before))
      (λ same. subst (λ (n : List ℕ). Contains (names ++ name ∷ []) n) (is ∙ ap segment_name same) (Contains-push names name))
      (Contains-push_cases numbers number k (subst (λ (l : List ℕ). Contains l k) new_is among));
  fits = λ k among. ⊎_elim (λ before. known.fits k before) (λ same. subst (λ (n : ℕ). n < 2 ^ 64) same fits)
      (Contains-push_cases numbers number k (subst (λ (l : List ℕ). Contains l k) new_is among));
}
