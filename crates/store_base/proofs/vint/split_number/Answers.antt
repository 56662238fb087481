use Rattle.std.proofs.Common.{◌≡◌, ℕ, ◌+◌, ◌-◌, ◌*◌, ◌^◌, ◌<◌, ◌≤◌, ◌⊎◌, inl, inr, List, length, get_or, take, drop, Some, sym, ◌∙◌, ap, subst, arith, length-take, add-one}
use Rattle.std.proofs.lemmas.List.{take_rest, take_all}
use Rattle.std.proofs.lemmas.Nat.{mul-le}
use Rattle.std.proofs.Math.Nat.{pow-suc, pow-le-pow_right, pos_of_ne-zero}
use Rattle.std.proofs.lemmas.Bool.{cases_lt}
use Rattle.std.specs.List.{AllByRecursion}
use Rattle.store_base.specs.VInt.{number_at}
use Rattle.store_base.proofs.NumberLoops.{low}
use Rattle.store_base.proofs.NumberLoops.{low_more, below_128_more, low_below, front_found, front_zero, front_short, front_long, found_below, found_above, found_none}
use Rattle.store_base.proofs.vint.split_number.Goals.{else-high-eq0-via-then-high-eq0+else-i-gt0, else-high-eq0-via-else-high-eq0}
use Rattle.store_base.proofs.vint.split_number.Goals.{Joined-else-high-eq0}
use Rattle.store_base.proofs.vint.split_number.Goals as goal

-- the number, as the code computes it
found : (bytes : List ℕ) (i value scale high : ℕ) → i < length bytes → AllByRecursion (λ d. d < 128) (take i bytes) → value ≡ low (take i bytes) → scale ≡ 128 ^ i → high ≡ get_or bytes i 0 - 128
    → 128 ≤ get_or bytes i 0 → (0 < high) ⊎ (i ≡ 0)
    → number_at bytes ≡ Some (high * scale + value, drop (i + 1) bytes)
found bytes i value scale high lt below v s h le some =
    let order : high * scale + value ≡ value + scale * high = omega arith in
    let same : value + scale * high ≡ low (take i bytes) + 128 ^ i * (get_or bytes i 0 - 128) = λ j. v j + s j * h j in
    let choice : (0 < get_or bytes i 0 - 128) ⊎ (i ≡ 0) = elim some [ inl p ↦ inl (omega arith) | inr e ↦ inr e ] in
    front_found bytes i lt below le choice ∙ ap (λ (x : ℕ). Some (x, drop (i + 1) bytes)) (sym (order ∙ same))

-- nothing wraps in the first nine bytes
small : (bytes : List ℕ) (i value scale : ℕ) → i ≤ 8 → i < length bytes → AllByRecursion (λ d. d < 128) (take i bytes) → value ≡ low (take i bytes) → scale ≡ 128 ^ i
    → (value < scale) × (scale ≤ 128 ^ 8)
small bytes i value scale few lt below v s =
    let len : length (take i bytes) ≡ i = omega (arith, length-take i bytes) in
    (omega (arith, low_below (take i bytes) below, ap (λ (n : ℕ). 128 ^ n) len), omega (arith, pow-le-pow_right {n = 128} (omega arith) few))

pub returns-then-i-gt0 : goal.returns-then-i-gt0
returns-then-i-gt0 c = sym (found_none (2 ^ 64) c.args.bytes.now (front_zero c.args.bytes.now c.loop-i.i c.loop-i-test.true c.loop-i.invariant.below (omega arith) c.if-i-gt0.true))

-- the last byte's group is not zero, or it is the only one
number_is : (c : Joined-else-high-eq0) → number_at c.args.bytes.now ≡ Some (c.from-high.result * c.loop-i.scale + c.loop-i.value, drop (c.loop-i.i + 1) c.args.bytes.now)
number_is c =
    let inv = c.loop-i.invariant in
    let some : (0 < c.from-high.result) ⊎ (c.loop-i.i ≡ 0) = elim c.else-high-eq0.branch [
      | else-high-eq0-via-then-high-eq0+else-i-gt0 w ↦ inr
          (omega (arith, w.if-i-gt0.false))
      | else-high-eq0-via-else-high-eq0 w ↦ inl (pos_of_ne-zero w.if-high-eq0.false)
    ] in
    found c.args.bytes.now c.loop-i.i c.loop-i.value c.loop-i.scale c.from-high.result c.loop-i-test.true inv.below inv.value inv.scale c.from-high.ensures c.if-b-ge-STOP_BIT.true some

pub returns-in_err-checked_mul : goal.returns-in_err-checked_mul
returns-in_err-checked_mul c =
    let e = number_is (goal.at.returns-in_err-checked_mul c).Joined-else-high-eq0 in
    let large : 2 ^ 64 ≤ c.from-high.result * c.loop-i.scale + c.loop-i.value = elim (cases_lt (c.from-high.result * c.loop-i.scale) (2 ^ 64)) [
      | inl lt ↦ absurd
          (c.in_err-checked_mul.ensures lt)
      | inr le ↦ omega arith
    ] in
    rw c.from_residual.ensures (sym (found_above (2 ^ 64) c.args.bytes.now _ _ e large))

pub returns-in_err-number : goal.returns-in_err-number
returns-in_err-number c =
    let e = number_is (goal.at.returns-in_err-number c).Joined-else-high-eq0 in
    let product = c.in_ok-checked_mul.ensures.1 in
    let large : 2 ^ 64 ≤ c.from-high.result * c.loop-i.scale + c.loop-i.value = elim (cases_lt (c.in_ok-checked_mul.field-0 + c.loop-i.value) (2 ^ 64)) [
      | inl lt ↦ absurd
          (c.in_err-number.ensures lt)
      | inr le ↦ omega (arith, product)
    ] in
    rw c.from_residual-in_err-number.ensures (sym (found_above (2 ^ 64) c.args.bytes.now _ _ e large))

pub returns-then-b-ge-STOP_BIT : goal.returns-then-b-ge-STOP_BIT
returns-then-b-ge-STOP_BIT c =
    let e = number_is (goal.at.returns-then-b-ge-STOP_BIT c).Joined-else-high-eq0 in
    let product = c.in_ok-checked_mul.ensures.1 in
    let total = c.in_ok-number.ensures in
    let value : c.from-high.result * c.loop-i.scale + c.loop-i.value ≡ c.in_ok-number.number = omega (arith, product, total.1) in
    let rest = drop (c.loop-i.i + 1) c.args.bytes.now in
    let below = found_below (2 ^ 64) c.args.bytes.now c.in_ok-number.number rest (e ∙ ap (λ (v : ℕ). Some (v, rest)) value) (omega (arith, total.0, total.1)) in
    ap (λ (r : List ℕ). Some (c.in_ok-number.number, r)) (take_rest c.args.bytes.now (c.loop-i.i + 1)) ∙ sym below

pub returns-then-i-eq9 : goal.returns-then-i-eq9
returns-then-i-eq9 c =
    let ten : c.loop-i.i + 1 ≡ 10 = omega (arith, c.if-i-eq9.true) in
    sym (front_long c.args.bytes.now (omega arith) (subst (λ (n : ℕ). AllByRecursion (λ d. d < 128) (take n c.args.bytes.now)) ten
    (below_128_more c.args.bytes.now c.loop-i.i c.loop-i-test.true c.loop-i.invariant.below c.if-b-ge-STOP_BIT.false)))

pub overflow_add-value : goal.overflow_add-value
overflow_add-value c =
    let sizes = small c.args.bytes.now c.loop-i.i c.loop-i.value c.loop-i.scale (omega arith) c.loop-i-test.true c.loop-i.invariant.below c.loop-i.invariant.value c.loop-i.invariant.scale in
    omega (arith, sizes.0, sizes.1, mul-le c.from.result c.loop-i.scale 127 (128 ^ 8) (omega (arith, c.from.ensures)) sizes.1)

pub overflow_mul-scale : goal.overflow_mul-scale
overflow_mul-scale c =
    let sizes = small c.args.bytes.now c.loop-i.i c.loop-i.value c.loop-i.scale (omega arith) c.loop-i-test.true c.loop-i.invariant.below c.loop-i.invariant.value c.loop-i.invariant.scale in
    omega (arith, sizes.1)

pub loop-i-preserved : goal.loop-i-preserved
loop-i-preserved c = record {
  short = omega arith;
  value = (λ j. c.loop-i.invariant.value j + c.from.ensures j * c.loop-i.invariant.scale j) ∙ sym (low_more c.args.bytes.now c.loop-i.i c.loop-i-test.true);
  scale = ap (λ (p : ℕ). p * 128) c.loop-i.invariant.scale ∙ sym (pow-suc 128 c.loop-i.i) ∙ ap (λ (n : ℕ). 128 ^ n) (sym (add-one c.loop-i.i));
  below = below_128_more c.args.bytes.now c.loop-i.i c.loop-i-test.true c.loop-i.invariant.below c.if-b-ge-STOP_BIT.false;
}

pub returns : goal.returns
returns c = sym (found_none (2 ^ 64) c.args.bytes.now (front_short c.args.bytes.now (subst (AllByRecursion (λ d. d < 128))
    (take_all c.loop-i.i c.args.bytes.now (omega arith)) c.loop-i.invariant.below)))
