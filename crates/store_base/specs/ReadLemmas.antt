-- What follows from an exact reading. The traits' laws cite it.
use Rattle.std.specs.Prelude.{◌≡◌, ℕ, ◌^◌, List, ◌++◌, Result, Ok, Err, refl}
use Rattle.std.proofs.Common.{sym, ap}
use Rattle.store_base.specs.declared.fault.DecodeFault.{DecodeFault}
use Rattle.store_base.specs.declared.fault.DecodeFault.TheVariants.{Short, Malformed, Version, Kind, Memory, Period}
use Rattle.store_base.specs.declared.vint.VInt.{VInt}
use Rattle.store_base.specs.VInt.{number}
use Rattle.store_base.specs.Serialize.{fixed}
use Rattle.store_base.specs.Reading.{IsBelow, HasFront, IsCutShort, Reads, IsReadBack}
use Rattle.store_base.specs.VIntLemmas.{numbers_are_apart}
use Rattle.store_base.specs.SerializeLemmas.{fixed_numbers_are_apart}

pub reads_keep : {A : Type 0} (IsValue : A → Type 0) (text : A → List ℕ) (old : List ℕ) (e : DecodeFault) (new : List ℕ)
    → Reads IsValue text old (Err e) new → new ≡ old
reads_keep IsValue text old Short new h = h.2
reads_keep IsValue text old Malformed new h = h.2
reads_keep IsValue text old (Version v) new h = absurd h
reads_keep IsValue text old (Kind k) new h = absurd h
reads_keep IsValue text old (Period p) new h = absurd h
reads_keep IsValue text old Memory new h = absurd h

-- a refusal says that no front of the bytes is the text of a value
pub refused_no_front : {A : Type 0} (IsValue : A → Type 0) (text : A
    → List ℕ) (old : List ℕ) (e : DecodeFault) (new : List ℕ) → Reads IsValue text old (Err e) new
    → HasFront IsValue text old → ⊥
refused_no_front IsValue text old Short new h front = h.1 front
refused_no_front IsValue text old Malformed new h front = h.1 front
refused_no_front IsValue text old (Version v) new h front = h
refused_no_front IsValue text old (Kind k) new h front = h
refused_no_front IsValue text old (Period p) new h front = h
refused_no_front IsValue text old Memory new h front = h

-- no text of a value begins another
abbrev AreApart : {A : Type 0} → (A → Type 0) → (A → List ℕ) → Type 0
AreApart {A} IsValue text = (x y : A) (r s : List ℕ) → IsValue x → IsValue y → text x ++ r ≡ text y ++ s
    → (x ≡ y) × (r ≡ s)

-- Where texts are apart, what was written is read again.
reads_back : {A : Type 0} (IsValue : A → Type 0) (text : A → List ℕ) → AreApart IsValue text
    → (x : A) (rest : List ℕ) (outcome : Result A DecodeFault) (new : List ℕ) → IsValue x
    → Reads IsValue text (text x ++ rest) outcome new → IsReadBack text x rest outcome new
reads_back IsValue text apart x rest (Ok y) new v h = let same =
    apart x y rest new v h.0 h.1 in (sym (ap text same.0), sym same.1)
reads_back IsValue text apart x rest (Err Short) new v h =
    absurd (h.1 (record { value = x; rest = rest; fits = v; parts = refl }))
reads_back IsValue text apart x rest (Err Malformed) new v h =
    absurd (h.1 (record { value = x; rest = rest; fits = v; parts = refl }))
reads_back IsValue text apart x rest (Err (Version n)) new v h = absurd h
reads_back IsValue text apart x rest (Err (Kind k)) new v h = absurd h
reads_back IsValue text apart x rest (Err (Period p)) new v h = absurd h
reads_back IsValue text apart x rest (Err Memory) new v h = absurd h

pub fixed_reads_back : (bytes x : ℕ) (rest : List ℕ) (outcome : Result ℕ DecodeFault) (new : List ℕ)
    → IsBelow (256 ^ bytes) x → Reads (IsBelow (256 ^ bytes)) (fixed bytes) (fixed bytes x ++ rest) outcome new
    → IsReadBack (fixed bytes) x rest outcome new
fixed_reads_back bytes = reads_back (IsBelow (256 ^ bytes)) (fixed bytes)
    (λ x y r s p q e. fixed_numbers_are_apart bytes x y r s p q e)

-- ---- a number in its own type

abbrev pub vint_bytes : VInt → List ℕ
vint_bytes v = number v.0

abbrev pub IsVInt : VInt → Type 0
IsVInt v = IsBelow (2 ^ 64) v.0

abbrev vint_of : ℕ → VInt
vint_of n = record { 0 = n }

pub vint_reads_back : (x : VInt) (rest : List ℕ) (outcome : Result VInt DecodeFault) (new : List ℕ) → IsVInt x
    → Reads IsVInt vint_bytes (vint_bytes x ++ rest) outcome new → IsReadBack vint_bytes x rest outcome new
vint_reads_back =
    reads_back IsVInt vint_bytes (λ x y r s p q e. let same =
    numbers_are_apart x.0 y.0 r s e in (ap vint_of same.0, same.1))

cut_vint : (bytes : List ℕ) → IsCutShort (IsBelow (2 ^ 64)) number bytes → IsCutShort IsVInt vint_bytes bytes
cut_vint bytes cut = record {
  value = vint_of cut.value;
  more = cut.more;
  fits = cut.fits;
  some = cut.some;
  parts =
      cut.parts;
}

cut_number : (bytes : List ℕ) → IsCutShort IsVInt vint_bytes bytes → IsCutShort (IsBelow (2 ^ 64)) number bytes
cut_number bytes cut = record {
  value = cut.value.0;
  more = cut.more;
  fits = cut.fits;
  some = cut.some;
  parts =
      cut.parts;
}

front_number : (bytes : List ℕ) → HasFront IsVInt vint_bytes bytes → HasFront (IsBelow (2 ^ 64)) number bytes
front_number bytes front = record { value = front.value.0; rest = front.rest; fits = front.fits; parts = front.parts }

pub vint_refused : (old : List ℕ) (e : DecodeFault) (new : List ℕ) → Reads (IsBelow (2 ^ 64)) number old (Err e) new
    → Reads IsVInt vint_bytes old (Err e) new
vint_refused old Short new h = (cut_vint old h.0, λ front. h.1 (front_number old front), h.2)
vint_refused old Malformed new h = (λ cut. h.0 (cut_number old cut), λ front. h.1 (front_number old front), h.2)
vint_refused old (Version v) new h = h
vint_refused old (Kind k) new h = h
vint_refused old (Period p) new h = h
vint_refused old Memory new h = h
