-- The spelling of a number: one step of it, its length, and that no spelling begins another.
use Rattle.std.proofs.Common.{◌≡◌, ℕ, zero, suc, ◌+◌, ◌*◌, ◌/◌, ◌%◌, ◌<◌, ◌≤◌, ◌^◌, ltb, List, [], ◌∷◌, ◌++◌, length}
use Rattle.std.proofs.Common.{refl, sym, ◌∙◌, ap, arith, append_assoc, inl, inr}
use Rattle.std.proofs.lemmas.Bool.{cond-true, cond-false, lt-ltb, le-ltb, cases_lt}
use Rattle.std.proofs.Math.Nat.{pow-suc}
use Rattle.store_base.specs.Laws.{NumbersAreApart}
use Rattle.store_base.specs.VInt.{number, number_within}

small : (turns n : ℕ) → n < 128 → number_within turns n ≡ (n + 128) ∷ []
unfolding number_within
small zero n lt = refl
small (suc turns) n lt = cond-true (ltb n 128) ((n + 128) ∷ []) ((n % 128) ∷ number_within turns (n / 128))
    (lt-ltb n 128 lt)

large : (turns n : ℕ) → 128 ≤ n → number_within (suc turns) n ≡ (n % 128) ∷ number_within turns (n / 128)
unfolding number_within
large turns n le = cond-false (ltb n 128) ((n + 128) ∷ []) ((n % 128) ∷ number_within turns (n / 128)) (le-ltb n 128 le)

-- enough turns are as good as more
turns : (f g n : ℕ) → n ≤ f → n ≤ g → number_within f n ≡ number_within g n
turns zero g n p q = let lt : n < 128 = omega arith in small zero n lt ∙ sym (small g n lt)
turns (suc f) zero n p q = let lt : n < 128 = omega arith in small (suc f) n lt ∙ sym (small zero n lt)
turns (suc f) (suc g) n p q = elim (cases_lt n 128) [
  | inl lt ↦ small (suc f) n lt ∙ sym (small (suc g) n lt)
  | inr le ↦ large f n le ∙ ap (λ (bytes : List ℕ). (n % 128) ∷ bytes) (turns f g (n / 128) (omega arith) (omega arith))
      ∙ sym (large g n le)
]

-- a number below 128 is one byte
pub number_small : (n : ℕ) → n < 128 → number n ≡ (n + 128) ∷ []
unfolding number
number_small n lt = small n n lt

-- any other is its low seven bits, and then the others
pub number_large : (n : ℕ) → 128 ≤ n → number n ≡ (n % 128) ∷ number (n / 128)
unfolding number
number_large zero le = absurd (omega arith)
number_large (suc n) le = large n (suc n) le ∙ ap (λ (bytes : List ℕ). (suc n % 128) ∷ bytes)
    (turns n (suc n / 128) (suc n / 128) (omega arith) (omega arith))

-- what two spellings have in front, where what follows is joined to them
pub number_small_then : (n : ℕ) (r : List ℕ) → n < 128 → number n ++ r ≡ (n + 128) ∷ r
number_small_then n r lt = ap (λ (bytes : List ℕ). bytes ++ r) (number_small n lt)

pub number_large_then : (n : ℕ) (r : List ℕ) → 128 ≤ n → number n ++ r ≡ (n % 128) ∷ (number (n / 128) ++ r)
number_large_then n r le = ap (λ (bytes : List ℕ). bytes ++ r) (number_large n le)

pub heads : (x y : ℕ) (r s : List ℕ) → x ∷ r ≡ y ∷ s → x ≡ y
heads x y r s e = cc

pub tails : (x y : ℕ) (r s : List ℕ) → x ∷ r ≡ y ∷ s → r ≡ s
tails x y r s e = cc

both_small : (m n : ℕ) (r s : List ℕ) → m < 128 → n < 128 → number m ++ r ≡ number n ++ s → (m ≡ n) × (r ≡ s)
both_small m n r s a b e =
    let cells : (m + 128) ∷ r ≡ (n + 128) ∷ s = sym (number_small_then m r a) ∙ e ∙ number_small_then n s b in
    let first = heads (m + 128) (n + 128) r s cells in
    (omega arith, tails (m + 128) (n + 128) r s cells)

not_both : (m n : ℕ) (r s : List ℕ) → m < 128 → 128 ≤ n → number m ++ r ≡ number n ++ s → ⊥
not_both m n r s a b e =
    let cells : (m + 128) ∷ r ≡ (n % 128) ∷ (number (n / 128) ++ s) = sym (number_small_then m r a) ∙ e
    ∙ number_large_then n s b in
    let first = heads (m + 128) (n % 128) r (number (n / 128) ++ s) cells in
    omega arith

-- No spelling begins another, by a bound on one of the numbers.
apart : (k m n : ℕ) (r s : List ℕ) → m ≤ k → number m ++ r ≡ number n ++ s → (m ≡ n) × (r ≡ s)
apart zero m n r s le e = elim (cases_lt n 128) [
  | inl b ↦ both_small m n r s (omega arith) b e
  | inr b ↦ absurd (not_both m n r s (omega arith) b e)
]
apart (suc k) m n r s le e = elim (cases_lt m 128) [
  | inl a ↦ elim (cases_lt n 128) [ inl b ↦ both_small m n r s a b e | inr b ↦ absurd (not_both m n r s a b e) ]
  | inr a ↦ elim (cases_lt n 128) [
    | inl b ↦ absurd (not_both n m s r b a (sym e))
    | inr b ↦
        let cells : (m % 128) ∷ (number (m / 128) ++ r) ≡ (n % 128) ∷ (number (n / 128) ++ s) =
        sym (number_large_then m r a) ∙ e ∙ number_large_then n s b in
        let first = heads (m % 128) (n % 128) (number (m / 128) ++ r) (number (n / 128) ++ s) cells in
        let others = apart k (m / 128) (n / 128) r s (omega arith)
        (tails (m % 128) (n % 128) (number (m / 128) ++ r) (number (n / 128) ++ s) cells) in
        (omega (arith, first, others.0), others.1)
  ]
]

pub numbers_are_apart : NumbersAreApart
numbers_are_apart m n r s e = apart m m n r s (omega arith) e

-- a number has a byte
pub number_some : (n : ℕ) → 0 < length (number n)
number_some n = elim (cases_lt n 128) [
  | inl a ↦ omega (arith, ap length (number_small n a))
  | inr a ↦ omega (arith, ap length (number_large n a))
]

-- how many bytes a number takes at most
length_within : (k n : ℕ) → n < 128 ^ suc k → length (number n) ≤ suc k
length_within zero n lt = omega (arith, ap length (number_small n (omega arith)))
length_within (suc k) n lt = elim (cases_lt n 128) [
  | inl a ↦ omega (arith, ap length (number_small n a))
  | inr a ↦
      let power : 128 ^ suc (suc k) ≡ 128 ^ suc k * 128 = pow-suc 128 (suc k) in
      let fewer = length_within k (n / 128) (omega arith) in
      omega (arith, ap length (number_large n a), fewer)
]

-- five bytes below 2^35, and ten below 2^70
pub length-number-le_5 : (n : ℕ) → n < 2 ^ 35 → length (number n) ≤ 5
length-number-le_5 n lt = length_within 4 n lt

pub length-number-le_10 : (n : ℕ) → n < 2 ^ 70 → length (number n) ≤ 10
length-number-le_10 n lt = length_within 9 n lt
