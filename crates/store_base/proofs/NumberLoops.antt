-- What a loop over bytes knows of the number at their front: ds are the bytes below 128 that it has passed.
use Rattle.std.proofs.Common.{◌≡◌, ℕ, zero, suc, ◌+◌, ◌-◌, ◌*◌, ◌^◌, ◌<◌, ◌≤◌, ◌⊎◌, inl, inr, cond, eqb, ltb, true, false, List, [], ◌∷◌, ◌++◌, length, get_or, take, drop, Option, Some, None, refl}
use Rattle.std.proofs.Common.{sym, ◌∙◌, ap, subst, arith}
use Rattle.std.proofs.lemmas.Bool.{lt-ltb, le-ltb}
use Rattle.std.proofs.lemmas.List.{take_more, drop_more, take-append-drop, length-take, append-nil}
use Rattle.std.proofs.Math.Nat.{pow-suc, pow-zero, one-le-pow}
use Rattle.std.specs.List.{AllByRecursion}
use Rattle.store_base.specs.VInt.{◌>>=◌, number_at, number_below}
use Rattle.store_base.specs.ReadingLemmas.{last, longer, goes_on}

-- what bytes below 128 are worth, the lowest first
abbrev pub low : List ℕ → ℕ
low [] = 0
low (d ∷ ds) = d + 128 * low ds

-- ---- bytes below 128 in front of others, as a loop meets them

low_value : (d l p h : ℕ) → d + 128 * (l + p * h) ≡ (d + 128 * l) + (p * 128) * h
low_value d l p h = omega arith

low_positive : (l p h : ℕ) → 0 < p → 0 < h → 0 < l + p * h
low_positive l (suc p) (suc h) some more = omega arith
low_positive l zero h some more = absurd (omega arith)
low_positive l (suc p) zero some more = absurd (omega arith)

-- a number that is not 0 after them
number_at_after : (ds rest others : List ℕ) (high : ℕ) → AllByRecursion (λ d. d < 128) ds → 0 < high → number_at rest ≡ Some (high, others)
    → number_at (ds ++ rest) ≡ Some (low ds + 128 ^ length ds * high, others)
number_at_after [] rest others high below some e = e ∙ ap (λ (v : ℕ). Some (v, others)) (omega (arith, pow-zero 128))
number_at_after (d ∷ ds) rest others high below some e =
    let value : d + 128 * (low ds + 128 ^ length ds * high) ≡ low (d ∷ ds) + 128 ^ length (d ∷ ds) * high =
    low_value d (low ds) (128 ^ length ds) high ∙ ap (λ (p : ℕ). low (d ∷ ds) + p * high) (sym (pow-suc 128 (length ds))) in
    let positive = low_positive (low ds) (128 ^ length ds) high (one-le-pow (length ds) 128 (omega arith)) some in
    longer d (ds ++ rest) others (low ds + 128 ^ length ds * high) below.0 positive (number_at_after ds rest others high below.1 some e)
    ∙ ap (λ (v : ℕ). Some (v, others)) value

-- nothing after them is read
number_at_none_after : (ds rest : List ℕ) → AllByRecursion (λ d. d < 128) ds → number_at rest ≡ None → number_at (ds ++ rest) ≡ None
number_at_none_after [] rest below e = e
number_at_none_after (d ∷ ds) rest below e =
    goes_on d (ds ++ rest) below.0 ∙ ap (λ (o : Option (ℕ × List ℕ)). o >>= λ high. cond (eqb high.0 0) None (Some (d + 128 * high.0, high.1))) (number_at_none_after ds rest below.1 e)

-- a 0 after them is no spelling
number_at_zero_after : (d : ℕ) (ds rest others : List ℕ) → AllByRecursion (λ d. d < 128) (d ∷ ds) → number_at rest ≡ Some (0, others) → number_at ((d ∷ ds) ++ rest) ≡ None
number_at_zero_after d [] rest others below e =
    goes_on d rest below.0 ∙ ap (λ (o : Option (ℕ × List ℕ)). o >>= λ high. cond (eqb high.0 0) None (Some (d + 128 * high.0, high.1))) e
number_at_zero_after d (c ∷ ds) rest others below e =
    goes_on d ((c ∷ ds) ++ rest) below.0 ∙ ap (λ (o : Option (ℕ × List ℕ)). o >>= λ high. cond (eqb high.0 0) None (Some (d + 128 * high.0, high.1))) (number_at_zero_after c ds rest others below.1 e)

-- ---- one byte more

low-push : (ds : List ℕ) (b : ℕ) → low (ds ++ b ∷ []) ≡ low ds + b * 128 ^ length ds
low-push [] b = omega (arith, pow-zero 128)
low-push (d ∷ ds) b = omega (arith, low-push ds b, ap (λ (p : ℕ). b * p) (pow-suc 128 (length ds)))

all-push : (ds : List ℕ) (b : ℕ) → AllByRecursion (λ d. d < 128) ds → b < 128 → AllByRecursion (λ d. d < 128) (ds ++ b ∷ [])
all-push [] b below lt = (lt, tt)
all-push (d ∷ ds) b below lt = (below.0, all-push ds b below.1 lt)

pub low_more : (bytes : List ℕ) (i : ℕ) → i < length bytes → low (take (i + 1) bytes) ≡ low (take i bytes) + get_or bytes i 0 * 128 ^ i
low_more bytes i lt =
    let len : length (take i bytes) ≡ i = omega (arith, length-take i bytes) in
    ap low (take_more bytes i 0 lt) ∙ low-push (take i bytes) (get_or bytes i 0) ∙ ap (λ (n : ℕ). low (take i bytes) + get_or bytes i 0 * 128 ^ n) len

pub below_128_more : (bytes : List ℕ) (i : ℕ) → i < length bytes → AllByRecursion (λ d. d < 128) (take i bytes) → get_or bytes i 0 < 128 → AllByRecursion (λ d. d < 128) (take (i + 1) bytes)
below_128_more bytes i lt below b = subst (AllByRecursion (λ d. d < 128)) (sym (take_more bytes i 0 lt)) (all-push (take i bytes) (get_or bytes i 0) below b)

pub low_below : (ds : List ℕ) → AllByRecursion (λ d. d < 128) ds → low ds < 128 ^ length ds
low_below [] below = omega (arith, pow-zero 128)
low_below (d ∷ ds) below = omega (arith, below.0, low_below ds below.1, pow-suc 128 (length ds))

-- ---- the last byte

parts_at : (bytes : List ℕ) (i : ℕ) → i < length bytes → bytes ≡ take i bytes ++ (get_or bytes i 0 ∷ drop (i + 1) bytes)
parts_at bytes i lt = sym (take-append-drop i bytes) ∙ ap (λ (x : List ℕ). take i bytes ++ x) (drop_more bytes i 0 lt)

-- it is worth something, or it is the only one
pub front_found : (bytes : List ℕ) (i : ℕ) → i < length bytes → AllByRecursion (λ d. d < 128) (take i bytes) → 128 ≤ get_or bytes i 0 → (0 < get_or bytes i 0 - 128) ⊎ (i ≡ 0)
    → number_at bytes ≡ Some (low (take i bytes) + 128 ^ i * (get_or bytes i 0 - 128), drop (i + 1) bytes)
front_found bytes zero lt below le some =
    ap number_at (parts_at bytes 0 lt) ∙ last (get_or bytes 0 0) (drop (0 + 1) bytes) le ∙ ap (λ (v : ℕ). Some (v, drop (0 + 1) bytes)) (omega (arith, pow-zero 128))
front_found bytes (suc i) lt below le some =
    let high = get_or bytes (suc i) 0 - 128 in
    let positive : 0 < high = elim some [ inl h ↦ h | inr e ↦ absurd (omega arith) ] in
    let len : length (take (suc i) bytes) ≡ suc i = omega (arith, length-take (suc i) bytes) in
    ap number_at (parts_at bytes (suc i) lt)
    ∙ number_at_after (take (suc i) bytes) (get_or bytes (suc i) 0 ∷ drop (suc i + 1) bytes) (drop (suc i + 1) bytes) high below positive (last (get_or bytes (suc i) 0) (drop (suc i + 1) bytes) le)
    ∙ ap (λ (n : ℕ). Some (low (take (suc i) bytes) + 128 ^ n * high, drop (suc i + 1) bytes)) len

-- it is 0 and not the only one
pub front_zero : (bytes : List ℕ) (i : ℕ) → i < length bytes → AllByRecursion (λ d. d < 128) (take i bytes) → get_or bytes i 0 ≡ 128 → 0 < i → number_at bytes ≡ None
front_zero bytes zero lt below is some = absurd (omega arith)
front_zero [] (suc i) lt below is some = absurd (omega arith)
front_zero (x ∷ xs) (suc i) lt below is some =
    let rest = drop (suc i + 1) (x ∷ xs) in
    let zero_high : get_or (x ∷ xs) (suc i) 0 - 128 ≡ 0 = omega (arith, is) in
    ap number_at (parts_at (x ∷ xs) (suc i) lt)
    ∙ number_at_zero_after x (take i xs) (get_or (x ∷ xs) (suc i) 0 ∷ rest) rest below (last (get_or (x ∷ xs) (suc i) 0) rest (omega (arith, is)) ∙ ap (λ (v : ℕ). Some (v, rest)) zero_high)

-- there is none
pub front_short : (bytes : List ℕ) → AllByRecursion (λ d. d < 128) bytes → number_at bytes ≡ None
unfolding number_at
front_short bytes below = ap number_at (sym (append-nil bytes)) ∙ number_at_none_after bytes [] below refl

-- ten bytes below 128 are too many for a number below 2^64
pub front_long : (bytes : List ℕ) → 10 ≤ length bytes → AllByRecursion (λ d. d < 128) (take 10 bytes) → number_below (2 ^ 64) bytes ≡ None
front_long [] le below = absurd (omega arith)
front_long (x ∷ xs) le below = go (number_at (drop 10 (x ∷ xs))) refl
  where
    ds : List ℕ
    ds = take 10 (x ∷ xs)

    whole : take 10 (x ∷ xs) ++ drop 10 (x ∷ xs) ≡ x ∷ xs
    whole = take-append-drop 10 (x ∷ xs)

    nothing : number_at (x ∷ xs) ≡ None → number_below (2 ^ 64) (x ∷ xs) ≡ None
    nothing e = rw e refl

    go : (o : Option (ℕ × List ℕ)) → number_at (drop 10 (x ∷ xs)) ≡ o → number_below (2 ^ 64) (x ∷ xs) ≡ None
    go None e = nothing (ap number_at (sym whole) ∙ number_at_none_after (take 10 (x ∷ xs)) (drop 10 (x ∷ xs)) below e)
    go (Some n) e = by_high n.0 n.1 e
      where
        by_high : (high : ℕ) (others : List ℕ) → number_at (drop 10 (x ∷ xs)) ≡ Some (high, others) → number_below (2 ^ 64) (x ∷ xs) ≡ None
        by_high zero others e = nothing (ap number_at (sym whole) ∙ number_at_zero_after x (take 9 xs) (drop 10 (x ∷ xs)) others below e)
        by_high (suc high) others e =
            let v = low (take 10 (x ∷ xs)) + 128 ^ length (take 10 (x ∷ xs)) * suc high in
            let found : number_at (x ∷ xs) ≡ Some (v, others) = ap number_at (sym whole) ∙ number_at_after (take 10 (x ∷ xs)) (drop 10 (x ∷ xs)) others (suc high) below (omega arith) e in
            let len : length (take 10 (x ∷ xs)) ≡ 10 = omega (arith, length-take 10 (x ∷ xs)) in
            let large : 2 ^ 64 ≤ v = omega (arith, ap (λ (n : ℕ). 128 ^ n * suc high) len) in
            let test : ltb v (2 ^ 64) ≡ false = le-ltb v (2 ^ 64) large in
            rw (found, test) refl

-- ---- the limit

pub found_below : (limit : ℕ) (bytes : List ℕ) (v : ℕ) (rest : List ℕ) → number_at bytes ≡ Some (v, rest) → v < limit → number_below limit bytes ≡ Some (v, rest)
found_below limit bytes v rest e lt = let test : ltb v limit ≡ true = lt-ltb v limit lt in rw (e, test) refl

pub found_above : (limit : ℕ) (bytes : List ℕ) (v : ℕ) (rest : List ℕ) → number_at bytes ≡ Some (v, rest) → limit ≤ v → number_below limit bytes ≡ None
found_above limit bytes v rest e le = let test : ltb v limit ≡ false = le-ltb v limit le in rw (e, test) refl

pub found_none : (limit : ℕ) (bytes : List ℕ) → number_at bytes ≡ None → number_below limit bytes ≡ None
found_none limit bytes e = rw e refl

-- ---- a number of one byte, of two and of three

pub one_byte : (bytes : List ℕ) (a : ℕ) → 1 ≤ length bytes → 128 ≤ get_or bytes 0 0 → get_or bytes 0 0 < 256 → a ≡ get_or bytes 0 0 - 128 → number_below (2 ^ 64) bytes ≡ Some (a, drop 1 bytes)
one_byte [] a some le fits e = absurd (omega arith)
one_byte (x ∷ bytes) a some le fits e =
    found_below (2 ^ 64) (x ∷ bytes) a bytes (last x bytes le ∙ ap (λ (v : ℕ). Some (v, bytes)) (sym e)) (omega (arith, e, fits))

pub two_bytes : (bytes : List ℕ) (a b : ℕ) → 2 ≤ length bytes → get_or bytes 0 0 < 128 → 128 < get_or bytes 1 0 → get_or bytes 1 0 < 256 → a ≡ get_or bytes 0 0 → b ≡ get_or bytes 1 0 - 128
    → number_below (2 ^ 64) bytes ≡ Some (a + 128 * b, drop 2 bytes)
two_bytes [] a b some low more fits e f = absurd (omega arith)
two_bytes (x ∷ []) a b some low more fits e f = absurd (omega arith)
two_bytes (x ∷ y ∷ bytes) a b some low more fits e f =
    found_below (2 ^ 64) (x ∷ y ∷ bytes) (a + 128 * b) bytes
    (longer x (y ∷ bytes) bytes (y - 128) low (omega (arith, more)) (last y bytes (omega (arith, more))) ∙ ap (λ (v : ℕ). Some (v, bytes)) (omega (arith, e, f))) (omega (arith, e, f, low, fits))

pub three_bytes : (bytes : List ℕ) (a b c : ℕ) → 3 ≤ length bytes → get_or bytes 0 0 < 128 → get_or bytes 1 0 < 128 → 128 < get_or bytes 2 0 → get_or bytes 2 0 < 256 → a ≡ get_or bytes 0 0
    → b ≡ get_or bytes 1 0 → c ≡ get_or bytes 2 0 - 128
    → number_below (2 ^ 64) bytes ≡ Some (a + 128 * (b + 128 * c), drop 3 bytes)
three_bytes [] a b c some low middle more fits e f g = absurd (omega arith)
three_bytes (x ∷ []) a b c some low middle more fits e f g = absurd (omega arith)
three_bytes (x ∷ y ∷ []) a b c some low middle more fits e f g = absurd (omega arith)
three_bytes (x ∷ y ∷ z ∷ bytes) a b c some low middle more fits e f g =
    let following = longer y (z ∷ bytes) bytes (z - 128) middle (omega (arith, more)) (last z bytes (omega (arith, more))) in
    found_below (2 ^ 64) (x ∷ y ∷ z ∷ bytes) (a + 128 * (b + 128 * c)) bytes
    (longer x (y ∷ z ∷ bytes) bytes (y + 128 * (z - 128)) low (omega (arith, more)) following ∙ ap (λ (v : ℕ). Some (v, bytes)) (omega (arith, e, f, g))) (omega (arith, e, f, g, low, middle, fits))
