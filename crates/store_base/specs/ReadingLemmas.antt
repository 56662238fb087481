-- What was spelled is read, and what is read is spelled so.
use Rattle.std.proofs.Common.{◌≡◌, ℕ, zero, suc, ◌+◌, ◌-◌, ◌*◌, ◌/◌, ◌%◌, ◌<◌, ◌≤◌, inl, inr, Bool, true, false, cond}
use Rattle.std.proofs.Common.{eqb, ltb, leb, List, [], ◌∷◌, ◌++◌, get_or, Option, Some, None, refl, sym, ◌∙◌, ap, subst}
use Rattle.std.proofs.Common.{arith, append_assoc}
use Rattle.std.proofs.lemmas.Bool.{lt-ltb, ltb-true, le-leb, lt-leb, ne_eqb, eqb-false, cases_lt}
use Rattle.std.proofs.Math.Nat.{pos_of_ne-zero}
use Rattle.store_base.specs.VInt.{number, ◌>>=◌, number_at, number_below}
use Rattle.store_base.specs.Serialize.{IsBytes}
use Rattle.store_base.specs.Laws.{NumbersAreRead, NumbersReadAreSpelled}
use Rattle.store_base.specs.VIntLemmas.{number_small_then, number_large_then}

-- ---- numbers

-- the last byte of a number
pub last : (b : ℕ) (rest : List ℕ) → 128 ≤ b → number_at (b ∷ rest) ≡ Some (b - 128, rest)
unfolding number_at
last b rest le = rw le-leb refl

-- a byte in front of a number that is not 0
pub longer : (b : ℕ) (bytes rest : List ℕ) (high : ℕ) → b < 128 → 0 < high → number_at bytes ≡ Some (high, rest)
    → number_at (b ∷ bytes) ≡ Some (b + 128 * high, rest)
unfolding number_at
longer b bytes rest high lt some e =
    let test : leb 128 b ≡ false = lt-leb 128 b lt in
    let not_none : eqb high 0 ≡ false = ne_eqb high 0 (λ zero_high. omega arith) in
    rw (test, e, not_none) refl

read_small : (n : ℕ) (rest : List ℕ) → n < 128 → number_at (number n ++ rest) ≡ Some (n, rest)
read_small n rest lt =
    let value : n + 128 - 128 ≡ n = omega arith in
    ap number_at (number_small_then n rest lt) ∙ last (n + 128) rest (omega arith)
    ∙ ap (λ (v : ℕ). Some (v, rest)) value

read : (k n : ℕ) (rest : List ℕ) → n ≤ k → number_at (number n ++ rest) ≡ Some (n, rest)
read zero n rest le = read_small n rest (omega arith)
read (suc k) n rest le = elim (cases_lt n 128) [
  | inl lt ↦ read_small n rest lt
  | inr ge ↦
      let value : n % 128 + 128 * (n / 128) ≡ n = omega arith in
      ap number_at (number_large_then n rest ge)
      ∙ longer (n % 128) (number (n / 128) ++ rest) rest (n / 128) (omega arith) (omega arith)
      (read k (n / 128) rest (omega arith))
      ∙ ap (λ (v : ℕ). Some (v, rest)) value
]

pub numbers_are_read : NumbersAreRead
numbers_are_read n rest = read n n rest (omega arith)

-- ---- what was read

-- What two steps gave, the first gave something for.
pub bind_some : {A B : Type 0} (o : Option A) (f : A → Option B) (y : B) → (o >>= f) ≡ Some y
    → (x : A) × (o ≡ Some x) × (f x ≡ Some y)
bind_some (Some x) f y e = (x, refl, e)
bind_some None f y e = cc

pub some_is : {A : Type 0} (x y : A) → Some x ≡ Some y → x ≡ y
some_is x y e = cc

-- A guard that gave something let it pass.
pub guard_some : {A : Type 0} (b : Bool) (x y : A) → cond b None (Some x) ≡ Some y → (b ≡ false) × (x ≡ y)
guard_some true x y e = cc
guard_some false x y e = (refl, cc)

pub pass_some : {A : Type 0} (b : Bool) (x y : A) → cond b (Some x) None ≡ Some y → (b ≡ true) × (x ≡ y)
pass_some true x y e = (refl, cc)
pass_some false x y e = cc

-- a byte below 128 leaves the rest to what follows
pub goes_on : (b : ℕ) (bytes : List ℕ) → b < 128 → number_at (b ∷ bytes)
    ≡ (number_at bytes >>= λ high. cond (eqb high.0 0) None (Some (b + 128 * high.0, high.1)))
unfolding number_at
goes_on b bytes lt = let test : leb 128 b ≡ false = lt-leb 128 b lt in rw test refl

spelled_last : (b : ℕ) (bytes : List ℕ) (n : ℕ) (rest : List ℕ) → b < 256 → 128 ≤ b
    → number_at (b ∷ bytes) ≡ Some (n, rest) → b ∷ bytes ≡ number n ++ rest
spelled_last b bytes n rest fits le e =
    let same = some_is (b - 128, bytes) (n, rest) (sym (last b bytes le) ∙ e) in
    let value : b - 128 ≡ n = ap (λ (x : ℕ × List ℕ). x.0) same in
    let following : bytes ≡ rest = ap (λ (x : ℕ × List ℕ). x.1) same in
    let byte : b ≡ n + 128 = omega arith in
    (λ i. byte i ∷ following i) ∙ sym (number_small_then n rest (omega arith))

spelled_longer : (b : ℕ) (bytes : List ℕ) (n : ℕ) (rest : List ℕ) → b < 128
    → ((m : ℕ) (r : List ℕ) → number_at bytes ≡ Some (m, r) → bytes ≡ number m ++ r)
    → number_at (b ∷ bytes) ≡ Some (n, rest) → b ∷ bytes ≡ number n ++ rest
spelled_longer b bytes n rest lt before e =
    let found = bind_some (number_at bytes) (λ high. cond (eqb high.0 0) None (Some (b + 128 * high.0, high.1))) (
      n,
      rest,
    ) (sym (goes_on b bytes lt) ∙ e) in
    let high = found.0.0 in
    let passed = guard_some (eqb high 0) (b + 128 * high, found.0.1) (n, rest) found.2 in
    let some = eqb-false high 0 passed.0 in
    let value : b + 128 * high ≡ n = ap (λ (x : ℕ × List ℕ). x.0) passed.1 in
    let following : found.0.1 ≡ rest = ap (λ (x : ℕ × List ℕ). x.1) passed.1 in
    let positive : 0 < high = pos_of_ne-zero some in
    let byte : b ≡ n % 128 = omega arith in
    let over : high ≡ n / 128 = omega arith in
    ap (λ (x : List ℕ). b ∷ x) (before high found.0.1 found.1) ∙ (λ i. byte i ∷ (number (over i) ++ following i))
    ∙ sym (number_large_then n rest (omega arith))

pub numbers_read_are_spelled : NumbersReadAreSpelled
unfolding number_at
numbers_read_are_spelled [] n rest fits e = cc
numbers_read_are_spelled (b ∷ bytes) n rest fits e = elim (cases_lt b 128) [
  | inl lt ↦ spelled_longer b bytes n rest lt (λ m r h. numbers_read_are_spelled bytes m r fits.1 h) e
  | inr le ↦ spelled_last b bytes n rest fits.0 le e
]

pub below_again : (limit n : ℕ) (rest : List ℕ) → n < limit → number_below limit (number n ++ rest) ≡ Some (n, rest)
below_again limit n rest lt =
    let test : ltb n limit ≡ true = lt-ltb n limit lt in
    rw (numbers_are_read n rest, test) refl

-- ---- numbers below a limit

pub bytes_after : (xs ys : List ℕ) → IsBytes (xs ++ ys) → IsBytes ys
bytes_after [] ys h = h
bytes_after (x ∷ xs) ys h = bytes_after xs ys h.1

-- what a field took from the front: its text, and the rest is still bytes
pub record SplitsOff (bytes text rest : List ℕ) : Type 0 where
  pub parts : bytes ≡ text ++ rest
  pub rest_fits : IsBytes rest

pub takes_from : (bytes text rest : List ℕ) → IsBytes bytes → bytes ≡ text ++ rest → SplitsOff bytes text rest
takes_from bytes text rest fits parts = record {
  parts = parts;
  rest_fits =
      bytes_after text rest (subst IsBytes parts fits);
}

pub takes_then : (a x b y c : List ℕ) → SplitsOff a x b → SplitsOff b y c → SplitsOff a (x ++ y) c
takes_then a x b y c p q = record {
  parts = p.parts ∙ ap (λ (t : List ℕ). x ++ t) q.parts
      ∙ sym (append_assoc x y c);
  rest_fits = q.rest_fits;
}

pub below_takes : (limit : ℕ) (bytes : List ℕ) (n : ℕ) (rest : List ℕ) → IsBytes bytes
    → number_below limit bytes ≡ Some (n, rest) → SplitsOff bytes (number n) rest × (n < limit)
below_takes limit bytes n rest fits e =
    let a = bind_some (number_at bytes) (λ m. cond (ltb m.0 limit) (Some m) None) (n, rest) e in
    let passed = pass_some (ltb a.0.0 limit) a.0 (n, rest) a.2 in
    let value : a.0.0 ≡ n = ap (λ (x : ℕ × List ℕ). x.0) passed.1 in
    let same : number_at bytes ≡ Some (n, rest) = a.1 ∙ ap (λ (x : ℕ × List ℕ). Some x) passed.1 in (
      takes_from bytes (number n) rest fits (numbers_read_are_spelled bytes n rest fits same),
      subst (λ (m : ℕ). m < limit) value (ltb-true a.0.0 limit passed.0),
    )

pub bytes_from : (bytes : List ℕ) → ((i : ℕ) → get_or bytes i 0 < 256) → IsBytes bytes
bytes_from [] h = tt
bytes_from (b ∷ bytes) h = (h 0, bytes_from bytes (λ i. h (suc i)))
