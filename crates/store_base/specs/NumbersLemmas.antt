-- What follows from the reading of a list of numbers. The traits' laws cite it.
use Rattle.std.specs.Prelude.{◌≡◌, ℕ, ◌<◌, ◌≤◌, ◌^◌, List, [], ◌∷◌, ◌++◌, length, Result, Ok, Err, Vec, refl}
use Rattle.std.specs.List.{flat_map, AllByRecursion}
use Rattle.std.proofs.lemmas.List.{length-append}
use Rattle.std.proofs.Common.{sym, ap, ◌∙◌, arith, append_assoc, inl, inr}
use Rattle.std.specs.declared.alloc.Global.{Global}
use Rattle.store_base.specs.declared.fault.DecodeFault.{DecodeFault}
use Rattle.store_base.specs.declared.fault.DecodeFault.TheVariants.{Short, Malformed, Version, Kind, Memory, Period}
use Rattle.store_base.specs.declared.vint.VInt.{VInt}
use Rattle.store_base.specs.VInt.{number}
use Rattle.store_base.specs.Serialize.{numbers}
use Rattle.store_base.specs.Reading.{IsBelow, HasFront, IsReadBack}
use Rattle.store_base.specs.Numbers.{values, AreNumbers, HasFault, ReadsNumbers}
use Rattle.store_base.specs.VIntLemmas.{numbers_are_apart, number_some}
use Rattle.store_base.specs.ReadLemmas.{refused_no_front}

abbrev pub vec_bytes : Vec VInt Global → List ℕ
vec_bytes v = numbers (values v)

abbrev pub IsVec : Vec VInt Global → Type 0
IsVec v = AreNumbers (values v)

pub numbers_keep : (old : List ℕ) (e : DecodeFault) (new : List ℕ) → ReadsNumbers old (Err e) new → new ≡ old
numbers_keep old Short new h = h.1
numbers_keep old Malformed new h = h.1
numbers_keep old (Version v) new h = absurd h
numbers_keep old (Kind k) new h = absurd h
numbers_keep old (Period p) new h = absurd h
numbers_keep old Memory new h = h

both_cons : (n m : ℕ) (ns ms : List ℕ) → n ≡ m → ns ≡ ms → n ∷ ns ≡ m ∷ ms
both_cons n m ns ms p q = cc

-- as many numbers, joined, are the same numbers
pub lists_are_apart : (ns ms : List ℕ) (r s : List ℕ) → length ns ≡ length ms
    → flat_map number ns ++ r ≡ flat_map number ms ++ s → (ns ≡ ms) × (r ≡ s)
lists_are_apart [] [] r s len e = (refl, e)
lists_are_apart [] (m ∷ ms) r s len e = absurd (omega (arith, len))
lists_are_apart (n ∷ ns) [] r s len e = absurd (omega (arith, len))
lists_are_apart (n ∷ ns) (m ∷ ms) r s len e =
    let first = numbers_are_apart n m (flat_map number ns ++ r) (flat_map number ms ++ s)
    (sym (append_assoc (number n) (flat_map number ns) r) ∙ e ∙ append_assoc (number m) (flat_map number ms) s) in
    let others = lists_are_apart ns ms r s (omega (arith, len)) first.1 in
    (both_cons n m ns ms first.0 others.0, others.1)

-- each number has a byte at least
pub length-numbers : (ns : List ℕ) → length ns ≤ length (flat_map number ns)
length-numbers [] = omega arith
length-numbers (n ∷ ns) = omega (arith, length-numbers ns, number_some n, length-append (number n) (flat_map number ns))

-- what follows some of the numbers begins with the next
next_number : (ns ms : List ℕ) (r s : List ℕ) → AllByRecursion (IsBelow (2 ^ 64)) ns → length ms < length ns
    → flat_map number ms ++ s ≡ flat_map number ns ++ r → HasFront (IsBelow (2 ^ 64)) number s
next_number [] ms r s fits lt e = absurd (omega (arith, lt))
next_number (n ∷ ns) [] r s fits lt e = record {
  value = n;
  rest = flat_map number ns ++ r;
  fits = fits.0;
  parts = e
      ∙ append_assoc (number n) (flat_map number ns) r;
}
next_number (n ∷ ns) (m ∷ ms) r s fits lt e =
    let first = numbers_are_apart m n (flat_map number ms ++ s) (flat_map number ns ++ r)
    (sym (append_assoc (number m) (flat_map number ms) s) ∙ e ∙ append_assoc (number n) (flat_map number ns) r) in
    next_number ns ms r s fits.1 (omega (arith, lt)) first.1

-- the text of numbers has no fault
no_fault : (ns rest : List ℕ) (e : DecodeFault) → AreNumbers ns → HasFault (numbers ns ++ rest) e → ⊥
no_fault ns rest e fits (inl count) =
    refused_no_front (IsBelow (2 ^ 64)) number (numbers ns ++ rest) e (numbers ns ++ rest) count
    (record {
      value = length ns;
      rest = flat_map number ns ++ rest;
      fits = fits.few;
      parts =
          append_assoc (number (length ns)) (flat_map number ns) rest;
    })
no_fault ns rest e fits (inr (inl both)) =
    let over = both.0 in
    let same = numbers_are_apart (length ns) over.count (flat_map number ns ++ rest) over.rest
    (sym (append_assoc (number (length ns)) (flat_map number ns) rest) ∙ over.parts) in
    omega (arith, same.0, ap length same.1, over.over, length-numbers ns, length-append (flat_map number ns) rest)
no_fault ns rest e fits (inr (inr at)) =
    let same = numbers_are_apart (length ns) at.count (flat_map number ns ++ rest)
    (flat_map number at.before ++ at.rest)
    (sym (append_assoc (number (length ns)) (flat_map number ns) rest) ∙ at.parts
    ∙ append_assoc (number at.count) (flat_map number at.before) at.rest) in
    refused_no_front (IsBelow (2 ^ 64)) number at.rest e at.rest at.fails
    (next_number ns at.before rest at.rest fits.below (omega (arith, same.0, at.earlier)) (sym same.1))

pub numbers_read_back : (x : Vec VInt Global) (rest : List ℕ) (outcome : Result (Vec VInt Global) DecodeFault)
    (new : List ℕ) → IsVec x → ReadsNumbers (vec_bytes x ++ rest) outcome new → IsReadBack vec_bytes x rest outcome new
numbers_read_back x rest (Ok y) new v h =
    let ns = values x in
    let ms = values y in
    let count = numbers_are_apart (length ns) (length ms) (flat_map number ns ++ rest) (flat_map number ms ++ new)
    (sym (append_assoc (number (length ns)) (flat_map number ns) rest) ∙ h.1
    ∙ append_assoc (number (length ms)) (flat_map number ms) new) in
    let all = lists_are_apart ns ms rest new count.0 count.1 in
    (sym (ap numbers all.0), sym all.1)
numbers_read_back x rest (Err Short) new v h = absurd (no_fault (values x) rest Short v h.0)
numbers_read_back x rest (Err Malformed) new v h = absurd (no_fault (values x) rest Malformed v h.0)
numbers_read_back x rest (Err (Version n)) new v h = absurd h
numbers_read_back x rest (Err (Kind k)) new v h = absurd h
numbers_read_back x rest (Err (Period p)) new v h = absurd h
numbers_read_back x rest (Err Memory) new v h = refl
