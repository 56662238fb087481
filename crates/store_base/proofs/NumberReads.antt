-- From what stands at the front of bytes to what reading promises.
use Rattle.std.proofs.Common.{◌≡◌, ℕ, ◌+◌, ◌-◌, ◌*◌, ◌/◌, ◌%◌, ◌<◌, ◌≤◌, inl, inr, List, [], ◌∷◌, ◌++◌, length, get_or, take, drop, Some, None, Ok, Err, ◌↔◌, refl, sym, ◌∙◌, ap, subst, arith}
use Rattle.std.proofs.Common.{append_assoc}
use Rattle.std.proofs.lemmas.Bool.{cases_lt}
use Rattle.std.proofs.lemmas.List.{append-nil, length-append, take_all}
use Rattle.store_base.specs.declared.fault.DecodeFault.TheVariants.{Short, Malformed}
use Rattle.store_base.specs.VInt.{number, number_below}
use Rattle.store_base.specs.Serialize.{IsBytes}
use Rattle.store_base.specs.Reading.{IsBelow, HasFront, IsCutShort, Reads}
use Rattle.store_base.specs.VIntLemmas.{number_small, number_large, number_some, numbers_are_apart, heads, tails}
use Rattle.store_base.specs.ReadingLemmas.{below_again, below_takes}

-- no bytes begin any number
pub cut_none : (most : ℕ) → IsCutShort (IsBelow (most + 1)) number []
cut_none most = record { value = 0; more = number 0; fits = omega arith; some = number_some 0; parts = refl }

-- a byte in front of the beginning of a number that is not 0
one_more : (most b : ℕ) (bytes : List ℕ) (m : ℕ) (more : List ℕ) → b < 128 → b + 128 ≤ most → 0 < m → m < (most - b) / 128 + 1 → 0 < length more → number m ≡ bytes ++ more
    → IsCutShort (IsBelow (most + 1)) number (b ∷ bytes)
one_more most b bytes m more lt room some fits rest parts =
    let low : (b + 128 * m) % 128 ≡ b = omega arith in
    let high : (b + 128 * m) / 128 ≡ m = omega arith in
    record {
      value = b + 128 * m;
      more = more;
      fits = omega arith;
      some = rest;
      parts = number_large (b + 128 * m) (omega arith) ∙ (λ i. low i ∷ number (high i)) ∙ ap (λ (t : List ℕ). b ∷ t) parts;
    }

pub cut_more : (most b : ℕ) (bytes : List ℕ) → b < 128 → b + 128 ≤ most → IsCutShort (IsBelow ((most - b) / 128 + 1)) number bytes → IsCutShort (IsBelow (most + 1)) number (b ∷ bytes)
cut_more most b bytes lt room cut = by_value cut.value cut.fits cut.parts
  where
    none_left : (xs more : List ℕ) → 128 ∷ [] ≡ xs ++ more → 0 < length more → xs ≡ []
    none_left [] more e some = refl
    none_left (x ∷ xs) more e some = absurd (omega (arith, ap length (tails 128 x [] (xs ++ more) e), length-append xs more))

    by_value : (m : ℕ) → m < (most - b) / 128 + 1 → number m ≡ bytes ++ cut.more → IsCutShort (IsBelow (most + 1)) number (b ∷ bytes)
    by_value m fits parts = elim (cases_lt 0 m) [
      | inl some ↦ one_more most b bytes m cut.more lt room some fits cut.some parts
      | inr none ↦
          let zero_is : m ≡ 0 = omega arith in
          let empty : bytes ≡ [] = none_left bytes cut.more (sym (number_small 0 (omega arith)) ∙ ap number (sym zero_is) ∙ parts) cut.some in
          one_more most b bytes 1 (129 ∷ []) lt room (omega arith) (omega arith) (omega arith) (number_small 1 (omega arith) ∙ ap (λ (t : List ℕ). t ++ 129 ∷ []) (sym empty))
    ]

-- what a byte in front of a beginning is, and what follows it
pub cut_rest : (most b : ℕ) (bytes : List ℕ) → IsCutShort (IsBelow (most + 1)) number (b ∷ bytes) → (b < 128) × (b + 128 ≤ most) × IsCutShort (IsBelow ((most - b) / 128 + 1)) number bytes
cut_rest most b bytes cut = elim (cases_lt cut.value 128) [
  | inl lt ↦ absurd (omega (arith, ap length (tails (cut.value + 128) b [] (bytes ++ cut.more) (sym (number_small cut.value lt) ∙ cut.parts)), length-append bytes cut.more, cut.some))
  | inr le ↦
      let cells = sym (number_large cut.value le) ∙ cut.parts in
      let byte = heads (cut.value % 128) b (number (cut.value / 128)) (bytes ++ cut.more) cells in
      let rest = tails (cut.value % 128) b (number (cut.value / 128)) (bytes ++ cut.more) cells in
      let below : cut.value < most + 1 = cut.fits in (
        omega (arith, byte),
        omega (arith, byte, below),
        record { value = cut.value / 128; more = cut.more; fits = omega (arith, byte, below); some = cut.some; parts = rest },
      )
]

-- Bytes as the code takes them apart: whether they begin a number by whether the rest does, and where they don't.
pub cut_step : (most first : ℕ) (bytes : List ℕ) → 1 ≤ length bytes → first ≡ get_or bytes 0 0 → first < 128 → first + 128 ≤ most
    → IsCutShort (IsBelow ((most - first) / 128 + 1)) number (take (length bytes - 1) (drop 1 bytes)) ↔ IsCutShort (IsBelow (most + 1)) number bytes
cut_step most first [] some is lt room = absurd (omega (arith, some))
cut_step most first (b ∷ bytes) some is lt room =
    let whole : take (length (b ∷ bytes) - 1) bytes ≡ bytes = take_all (length (b ∷ bytes) - 1) bytes (omega arith) in
    let small : b < 128 = omega (arith, is) in
    let fits : b + 128 ≤ most = omega (arith, is, room) in (
      λ cut. cut_more most b bytes small fits (subst (λ (n : ℕ). IsCutShort (IsBelow ((most - n) / 128 + 1)) number bytes) is
          (subst (IsCutShort (IsBelow ((most - first) / 128 + 1)) number) whole cut)),
      λ cut. subst (IsCutShort (IsBelow ((most - first) / 128 + 1)) number) (sym whole) (subst (λ (n : ℕ). IsCutShort (IsBelow ((most - n) / 128 + 1)) number bytes) (sym is)
          (cut_rest most b bytes cut).2),
    )

pub cut_large : (most first : ℕ) (bytes : List ℕ) → 1 ≤ length bytes → first ≡ get_or bytes 0 0 → (first < 128 → most < first + 128) → IsCutShort (IsBelow (most + 1)) number bytes → ⊥
cut_large most first [] some is large cut = absurd (omega (arith, some))
cut_large most first (b ∷ bytes) some is large cut =
    let rest = cut_rest most b bytes cut in
    let small : first < 128 = omega (arith, is, rest.0) in
    let over : most < first + 128 = large small in
    omega (arith, is, rest.1, over)

-- a front that is a number is no proper beginning of one
not_both : (limit : ℕ) (bytes : List ℕ) (n : ℕ) (rest : List ℕ) → bytes ≡ number n ++ rest → IsCutShort (IsBelow limit) number bytes → ⊥
not_both limit bytes n rest parts cut =
    let same : number n ++ (rest ++ cut.more) ≡ number cut.value ++ [] =
    sym (append_assoc (number n) rest cut.more) ∙ ap (λ (t : List ℕ). t ++ cut.more) (sym parts) ∙ sym cut.parts ∙ sym (append-nil (number cut.value)) in
    omega (arith, ap length (numbers_are_apart n cut.value (rest ++ cut.more) [] same).1, length-append rest cut.more, cut.some)

pub reads_found : (limit : ℕ) (bytes : List ℕ) (n : ℕ) (rest : List ℕ) → IsBytes bytes → number_below limit bytes ≡ Some (n, rest) → Reads (IsBelow limit) number bytes (Ok n) rest
reads_found limit bytes n rest fits e =
    let taken = below_takes limit bytes n rest fits e in
    (taken.1, taken.0.parts, not_both limit bytes n rest taken.0.parts)

no_front : (limit : ℕ) (bytes : List ℕ) → number_below limit bytes ≡ None → HasFront (IsBelow limit) number bytes → ⊥
no_front limit bytes e front =
    let again : number_below limit bytes ≡ Some (front.value, front.rest) = ap (number_below limit) front.parts ∙ below_again limit front.value front.rest front.fits in
    absurd cc

pub reads_short : (limit : ℕ) (bytes : List ℕ) → number_below limit bytes ≡ None → IsCutShort (IsBelow limit) number bytes → Reads (IsBelow limit) number bytes (Err Short) bytes
reads_short limit bytes e cut = (cut, no_front limit bytes e, refl)

pub reads_malformed : (limit : ℕ) (bytes : List ℕ) → number_below limit bytes ≡ None → (IsCutShort (IsBelow limit) number bytes → ⊥) → Reads (IsBelow limit) number bytes (Err Malformed) bytes
reads_malformed limit bytes e not_cut = (not_cut, no_front limit bytes e, refl)
