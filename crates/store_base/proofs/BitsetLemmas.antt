-- Flags as the bits of words.
use Rattle.std.proofs.Common.{◌≡◌, ◌≢◌, ℕ, zero, suc, ◌+◌, ◌-◌, ◌*◌, ◌/◌, ◌%◌, ◌^◌, ◌<◌, ◌≤◌, Bool, true, false, cond, eqb, List, ◌∷◌, length, get_or, set, refl, subst, zero-add, sym, ◌∙◌, ap, arith}
use Rattle.std.proofs.Common.{inl, inr}
use Rattle.std.proofs.lemmas.Bool.{cases_lt, ne_eqb, eq-eqb}
use Rattle.std.proofs.lemmas.List.{get_or-set_same, get_or-set_other, get_or-replicate, get_or_past, length-set}
use Rattle.std.proofs.lemmas.Grind.{get_or_default_zero}
use Rattle.std.proofs.lemmas.List.Folds.{sum_by-replicate}
use Rattle.std.proofs.lemmas.List.Sums.{sum_by-set}
use Rattle.std.proofs.lemmas.Nat.Bits.{bit_at_clear_same, bit_at_clear_other, bit_at_ones}
use Rattle.std.specs.Prelude.{replicate, bit_and, count_by, not}
use Rattle.std.specs.Int.{w64, bit_at, bit_not}
use Rattle.store_base.specs.AliveBitSet.{is_bit_set, flags_from}

pub length-flags : (n id : ℕ) (words : List ℕ) → length (flags_from n id words) ≡ n
unfolding flags_from
length-flags zero id words = refl
length-flags (suc n) id words = ap suc (length-flags n (suc id) words)

flag_at : (n id k : ℕ) (words : List ℕ) → k < n → get_or (flags_from n id words) k false ≡ is_bit_set words (id + k)
unfolding flags_from
flag_at zero id k words lt = absurd (omega (arith, lt))
flag_at (suc n) id zero words lt = ap (is_bit_set words) (let e : id ≡ id + 0 = omega arith in e)
flag_at (suc n) id (suc k) words lt = flag_at n (suc id) k words (omega (arith, lt)) ∙ ap (is_bit_set words) (let e : suc id + k ≡ id + suc k = omega arith in e)

pub flag_of : (n k : ℕ) (words : List ℕ) → k < n → get_or (flags_from n 0 words) k false ≡ is_bit_set words k
flag_of n k words lt = flag_at n 0 k words lt ∙ ap (is_bit_set words) (zero-add k)

pub no_flag : (n id k : ℕ) (words : List ℕ) → n ≤ k → get_or (flags_from n id words) k false ≡ false
unfolding flags_from
no_flag zero id k words le = refl
no_flag (suc n) id zero words le = absurd (omega (arith, le))
no_flag (suc n) id (suc k) words le = no_flag n (suc id) k words (omega (arith, le))

-- ---- all bits set

all_set : (n id : ℕ) → id < 64 * n → is_bit_set (replicate n (2 ^ 64 - 1)) id ≡ true
all_set n id lt =
    let word : get_or (replicate n (2 ^ 64 - 1)) (id / 64) 0 ≡ 2 ^ 64 - 1 = get_or-replicate n (id / 64) (2 ^ 64 - 1) 0 (omega arith) in
    let bit : bit_at (2 ^ 64 - 1) (id % 64) ≡ 1 = bit_at_ones 64 (id % 64) (omega arith) in
    ap (λ (w : ℕ). eqb (bit_at w (id % 64)) 1) word ∙ ap (λ (b : ℕ). eqb b 1) bit

flags_set : (n words id : ℕ) → id + n ≤ 64 * words → flags_from n id (replicate words (2 ^ 64 - 1)) ≡ replicate n true
unfolding flags_from
flags_set zero words id le = refl
flags_set (suc n) words id le = λ i. all_set words id (omega (arith, le)) i ∷ flags_set n words (suc id) (omega (arith, le)) i

pub flags_all : (n words : ℕ) → n ≤ 64 * words → flags_from n 0 (replicate words (2 ^ 64 - 1)) ≡ replicate n true
flags_all n words le = flags_set n words 0 (omega (arith, le))

pub count_all : (n : ℕ) → count_by (λ alive. alive) (replicate n true) ≡ n
count_all n = sum_by-replicate (λ (b : Bool). cond b 1 0) n true ∙ omega arith

-- ---- one bit cleared

pub record Clears (k : ℕ) (old new : List ℕ) : Type 0 where
  pub same : (id : ℕ) → id ≢ k → is_bit_set new id ≡ is_bit_set old id
  pub gone : is_bit_set new k ≡ false

pub clears : (k : ℕ) (words : List ℕ) → k / 64 < length words → Clears k words (set words (k / 64) (bit_and (get_or words (k / 64) 0) (bit_not w64 (1 * 2 ^ (k % 64) % 2 ^ 64))))
clears k words within =
    let word = get_or words (k / 64) 0 in
    let cleared = bit_and word (bit_not w64 (1 * 2 ^ (k % 64) % 2 ^ 64)) in
    let new = set words (k / 64) cleared in
    let here : get_or new (k / 64) 0 ≡ cleared = get_or-set_same words (k / 64) cleared 0 within in
    record {
      same = λ id other. elim (cases_lt (id / 64) (k / 64)) [
        | inl lt ↦ ap (λ (w : ℕ). eqb (bit_at w (id % 64)) 1) (get_or-set_other words (k / 64) (id / 64) cleared 0 (λ e. omega (arith, e, lt)))
        | inr le ↦ elim (cases_lt (k / 64) (id / 64)) [
          | inl lt ↦ ap (λ (w : ℕ). eqb (bit_at w (id % 64)) 1) (get_or-set_other words (k / 64) (id / 64) cleared 0 (λ e. omega (arith, e, lt)))
          | inr ge ↦
              let word_is : id / 64 ≡ k / 64 = omega arith in
              let bit_is : bit_at cleared (id % 64) ≡ bit_at word (id % 64) = bit_at_clear_other w64 word (k % 64) (omega arith) (id % 64) (omega arith) (λ e. other (omega (arith, e, word_is))) in
              ap (λ (j : ℕ). eqb (bit_at (get_or new j 0) (id % 64)) 1) word_is
              ∙ ap (λ (w : ℕ). eqb (bit_at w (id % 64)) 1) here
              ∙ ap (λ (b : ℕ). eqb b 1) bit_is
              ∙ ap (λ (j : ℕ). eqb (bit_at (get_or words j 0) (id % 64)) 1) (sym word_is)
        ]
      ];
      gone = ap (λ (w : ℕ). eqb (bit_at w (k % 64)) 1) here ∙ ap (λ (b : ℕ). eqb b 1) (bit_at_clear_same w64 word (k % 64) (omega arith));
    }

flags_same : (n id k : ℕ) (old new : List ℕ) → Clears k old new → k < id → flags_from n id new ≡ flags_from n id old
unfolding flags_from
flags_same zero id k old new c lt = refl
flags_same (suc n) id k old new c lt = λ i. c.same id (λ e. omega (arith, e, lt)) i ∷ flags_same n (suc id) k old new c (omega (arith, lt)) i

pub flags_cleared : (n id j k : ℕ) (old new : List ℕ) → k ≡ id + j → Clears k old new → flags_from n id new ≡ set (flags_from n id old) j false
unfolding flags_from
flags_cleared zero id zero k old new is c = refl
flags_cleared zero id (suc j) k old new is c = refl
flags_cleared (suc n) id zero k old new is c =
    let here : k ≡ id = omega (arith, is) in
    let gone : is_bit_set new id ≡ false = ap (is_bit_set new) (sym here) ∙ c.gone in
    λ i. gone i ∷ flags_same n (suc id) k old new c (omega (arith, is)) i
flags_cleared (suc n) id (suc j) k old new is c = λ i. c.same id (λ e. omega (arith, e, is)) i ∷ flags_cleared n (suc id) j k old new (omega (arith, is)) c i

-- one flag less
pub count_less : (flags : List Bool) (k : ℕ) → k < length flags → get_or flags k false ≡ true → count_by (λ alive. alive) (set flags k false) + 1 ≡ count_by (λ alive. alive) flags
count_less flags k within is =
    let value : Bool → ℕ = λ b. cond b 1 0 in
    let e = sum_by-set value flags k false false within in
    let here : value (get_or flags k false) ≡ 1 = ap value is in
    omega (arith, e, here)

pub not_dead : (alive : Bool) → not alive ≡ false → alive ≡ true
not_dead true e = refl
not_dead false e = absurd cc

-- a document that is alive is below the end
pub alive_within : (n id k : ℕ) (words : List ℕ) → get_or (flags_from n id words) k false ≡ true → k < n
alive_within n id k words is = elim (cases_lt k n) [
  | inl lt ↦ lt
  | inr le ↦ absurd (let dead = no_flag n id k words le in cc)
]

-- ---- one document deleted

pub record Deletes (n num k : ℕ) (old new : List ℕ) : Type 0 where
  pub fits : n ≤ 64 * length new
  pub flags : flags_from n 0 new ≡ set (flags_from n 0 old) k false
  pub count : num - 1 ≡ count_by (λ alive. alive) (flags_from n 0 new)

pub deletes : (n num k : ℕ) (words : List ℕ) (word : ℕ) → n ≤ 64 * length words → num ≡ count_by (λ alive. alive) (flags_from n 0 words) → get_or (flags_from n 0 words) k false ≡ true
    → word ≡ get_or words (k / 64) word → Deletes n num k words (set words (k / 64) (bit_and word (bit_not w64 (1 * 2 ^ (k % 64) % 2 ^ 64))))
deletes n num k words word fits num_is alive word_is =
    let below : k < n = alive_within n 0 k words alive in
    let within : k / 64 < length words = omega arith in
    let there : word ≡ get_or words (k / 64) 0 = word_is ∙ get_or_default_zero words (k / 64) word within in
    let clear : ℕ → List ℕ = λ w. set words (k / 64) (bit_and w (bit_not w64 (1 * 2 ^ (k % 64) % 2 ^ 64))) in
    let cleared : Clears k words (clear word) = subst (λ (w : ℕ). Clears k words (clear w)) (sym there) (clears k words within) in
    let flags : flags_from n 0 (clear word) ≡ set (flags_from n 0 words) k false = flags_cleared n 0 k k words (clear word) (omega arith) cleared in
    let inside : k < length (flags_from n 0 words) = omega (arith, length-flags n 0 words) in
    let less = count_less (flags_from n 0 words) k inside alive in
    record {
      fits = omega (arith, length-set words (k / 64) (bit_and word (bit_not w64 (1 * 2 ^ (k % 64) % 2 ^ 64))));
      flags = flags;
      count = rw flags (omega (arith, less, num_is));
    }

-- what is alive once one flag is cleared
pub alive_after : (flags : List Bool) (k j : ℕ) → get_or flags k false ≡ true → get_or (set flags k false) j false ≡ cond (eqb j k) false (get_or flags j false)
alive_after flags k j alive = elim (cases_lt j k) [
  | inl lt ↦ get_or-set_other flags k j false false (λ e. omega (arith, e, lt)) ∙ sym (ap (λ (b : Bool). cond b false (get_or flags j false)) (ne_eqb j k (λ e. omega (arith, e, lt))))
  | inr le ↦ elim (cases_lt k j) [
    | inl lt ↦ get_or-set_other flags k j false false (λ e. omega (arith, e, lt)) ∙ sym (ap (λ (b : Bool). cond b false (get_or flags j false)) (ne_eqb j k (λ e. omega (arith, e, lt))))
    | inr ge ↦
        let same : j ≡ k = omega arith in
        let within : k < length flags = elim (cases_lt k (length flags)) [ inl lt ↦ lt | inr past ↦ absurd (let dead = get_or_past flags k false past in cc) ] in
        ap (λ (i : ℕ). get_or (set flags k false) i false) same ∙ get_or-set_same flags k false false within ∙ sym (ap (λ (b : Bool). cond b false (get_or flags j false)) (eq-eqb j k same))
  ]
]
