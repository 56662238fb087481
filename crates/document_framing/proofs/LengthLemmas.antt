-- Lemmas on documents that follow their lengths.
use Rattle.std.proofs.Common.{◌≡◌, ℕ, zero, suc, ◌+◌, ◌<◌, ◌≤◌, Bool, true, false, cond, nat_le, List, [], ◌∷◌, ◌++◌, length, take, drop, refl, sym, ap, ◌∙◌, arith, append_assoc}
use Rattle.std.proofs.Common.{Option, None, Some, length-append, length-drop, take_at, drop_at, le-leb, leb-true}
use Rattle.std.specs.Int.{w32, from_le_bytes}
use Rattle.std.specs.Io.KnownBytes.{Consumes}
use Rattle.document_framing.specs.declared.framing.Framing.TheVariants.{Lengths}
use Rattle.document_framing.specs.Framings.{documents_of, is_measured, measure, measured}
use Rattle.document_framing.specs.Feeding.{AreSpent, Gives, known_documents}
use Rattle.document_framing.specs.Taking.{IsReadUpTo}

cond_false : {A : Type 0} (b : Bool) (x y : A) → b ≡ false → cond b x y ≡ y
cond_false b x y e = ap (λ c. cond c x y) e

cond_true : {A : Type 0} (b : Bool) (x y : A) → b ≡ true → cond b x y ≡ x
cond_true b x y e = ap (λ c. cond c x y) e

-- fewer bytes than a length has
short : (xs : List ℕ) → length xs < 4 → is_measured xs ≡ false
short xs few = cond_false (nat_le 4 (length xs)) _ false (at (nat_le 4 (length xs)) refl)
  where
    at : (b : Bool) → nat_le 4 (length xs) ≡ b → nat_le 4 (length xs) ≡ false
    at true is = absurd (omega (arith, leb-true 4 (length xs) is))
    at false is = is

none_measured : (m : ℕ) (xs : List ℕ) → length xs < 4 → measured m xs ≡ []
none_measured zero xs few = refl
none_measured (suc m) xs few = cond_false (is_measured xs) _ [] (short xs few)

-- no more documents come where more are allowed than there are bytes
measured_same : (m n : ℕ) (xs : List ℕ) → length xs ≤ m → length xs ≤ n → measured m xs ≡ measured n xs
measured_same zero n xs p q = sym (none_measured n xs (omega arith))
measured_same (suc m) zero xs p q = none_measured (suc m) xs (omega arith)
measured_same (suc m) (suc n) xs p q =
    let rest = drop (4 + measure xs) xs in
    ap (λ l. cond (is_measured xs) (take (measure xs) (drop 4 xs) ∷ l) [])
    (measured_same m n rest (omega (arith, length-drop (4 + measure xs) xs)) (omega (arith, length-drop (4 + measure xs) xs)))

-- a document after its length is the first
pub first_measured : (head document others : List ℕ) → length head ≡ 4 → length document ≡ from_le_bytes w32 head
    → documents_of Lengths (head ++ (document ++ others)) ≡ document ∷ documents_of Lengths others
first_measured head document others four long =
    let xs = head ++ (document ++ others) in
    let front : take 4 xs ≡ head = take_at head (document ++ others) 4 four in
    let back : drop 4 xs ≡ document ++ others = drop_at head (document ++ others) 4 four in
    let len : measure xs ≡ length document = ap (from_le_bytes w32) front ∙ sym long in
    let total : length xs ≡ 4 + (length document + length others) =
    omega (arith, length-append head (document ++ others), length-append document others) in
    let some : is_measured xs ≡ true =
    cond_true (nat_le 4 (length xs)) _ false (le-leb 4 (length xs) (omega arith)) ∙ le-leb (4 + measure xs) (length xs) (omega arith) in
    let rest : drop (4 + measure xs) xs ≡ others =
    ap (λ k. drop (4 + k) xs) len ∙ ap (drop (4 + length document)) (sym (append_assoc head document others))
    ∙ drop_at (head ++ document) others (4 + length document) (omega (arith, length-append head document)) in
    let first : take (measure xs) (drop 4 xs) ≡ document =
    ap (λ k. take k (drop 4 xs)) len ∙ ap (take (length document)) back ∙ take_at document others (length document) refl in
    measured_same (length xs) (suc (length xs)) xs (omega arith) (omega arith)
    ∙ cond_true (is_measured xs) _ [] some
    ∙ ap (λ d. d ∷ measured (length xs) (drop (4 + measure xs) xs)) first
    ∙ ap (λ l. document ∷ measured (length xs) l) rest
    ∙ ap (λ l. document ∷ l) (measured_same (length xs) (length others) others (omega arith) (omega arith))

-- a length was read, and then so many bytes
pub measured_read : (a b c : Option (List ℕ)) (head document : List ℕ) → Consumes a b head → Consumes b c document
    → length head ≡ 4 → length document ≡ from_le_bytes w32 head
    → Gives (known_documents Lengths a) (known_documents Lengths c) (document ∷ [])
measured_read None b c head document p q four long = tt
measured_read (Some x) None c head document p q four long = absurd p
measured_read (Some x) (Some y) None head document p q four long = absurd q
measured_read (Some x) (Some y) (Some z) head document p q four long =
    ap (documents_of Lengths) (p ∙ ap (λ l. head ++ l) q) ∙ first_measured head document z four long

-- nothing was read where a length was expected
pub nothing_measured : (a b : Option (List ℕ)) (head : List ℕ) → IsReadUpTo 4 a b head → length head ≡ 0
    → Gives (known_documents Lengths a) (known_documents Lengths b) []
    × AreSpent (known_documents Lengths a) (known_documents Lengths b)
nothing_measured None b head read none = (tt, tt)
nothing_measured (Some x) None head read none = absurd read.consumed
nothing_measured (Some x) (Some y) head read none =
    let ends : y ≡ [] = read.last (omega arith) in
    let empty : length x ≡ 0 = omega (arith, ap length read.consumed, length-append head y, ap length ends) in (
      none_measured (length x) x (omega arith) ∙ sym (ap (documents_of Lengths) ends),
      ap (λ l. Some (documents_of Lengths l)) ends,
    )
