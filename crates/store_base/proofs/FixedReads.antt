-- Fixed numbers of the widths of the types, read exactly.
use Rattle.std.proofs.Common.{◌≡◌, ℕ, zero, suc, ◌-◌, ◌^◌, ◌<◌, ◌≤◌, List, [], ◌∷◌, ◌++◌, length, get_or, take, drop, Ok, Err, refl, sym, ap, arith, inl, inr}
use Rattle.std.specs.Int.{Width, w8, w32, w64, byte_len, from_le_bytes}
use Rattle.std.proofs.lemmas.Bool.{cases_lt}
use Rattle.std.proofs.lemmas.List.{take-append-drop, length-append, length-take, get_or-take, get_or_past}
use Rattle.std.proofs.lemmas.Nat.{le_bytes_4, le_bytes_8}
use Rattle.store_base.specs.declared.fault.DecodeFault.TheVariants.{Short}
use Rattle.store_base.specs.Serialize.{fixed}
use Rattle.store_base.specs.Reading.{IsBelow, Reads}

abbrev pub AreOctets : List ℕ → Type 0
AreOctets bytes = (i : ℕ) → get_or bytes i 0 < 256

-- A width: its numbers have so many bytes, and so many bytes are one of them.
pub record IsWide (w : Width) (limit : ℕ) : Type 0 where
  pub len : (n : ℕ) → length (fixed (byte_len w) n) ≡ byte_len w
  pub back : (bytes : List ℕ) → length bytes ≡ byte_len w → AreOctets bytes → fixed (byte_len w) (from_le_bytes w bytes) ≡ bytes
  pub below : (bytes : List ℕ) → AreOctets bytes → from_le_bytes w bytes < limit

back_8 : (bytes : List ℕ) → length bytes ≡ 1 → AreOctets bytes → fixed 1 (from_le_bytes w8 bytes) ≡ bytes
unfolding fixed
back_8 [] len fits = absurd (omega (arith, len))
back_8 (b ∷ []) len fits = ap (λ (n : ℕ). n ∷ []) (let f = fits 0 in omega arith)
back_8 (b ∷ c ∷ bytes) len fits = absurd (omega (arith, len))

pub wide8 : IsWide w8 (2 ^ 8)
unfolding fixed
wide8 = record {
  len = λ n. refl;
  back = back_8;
  below = λ bytes fits. fits 0;
}

pub wide32 : IsWide w32 (2 ^ 32)
unfolding fixed
wide32 = record {
  len = λ n. refl;
  back = λ bytes len fits. le_bytes_4 bytes _ len fits refl;
  below = λ bytes fits. omega (arith, fits 0, fits 1, fits 2, fits 3);
}

pub wide64 : IsWide w64 (2 ^ 64)
unfolding fixed
wide64 = record {
  len = λ n. refl;
  back = λ bytes len fits. le_bytes_8 bytes _ len fits refl;
  below = λ bytes fits. omega (arith, fits 0, fits 1, fits 2, fits 3, fits 4, fits 5, fits 6, fits 7);
}

abbrev zeros : ℕ → List ℕ
zeros zero = []
zeros (suc k) = 0 ∷ zeros k

zeros_fit : (k : ℕ) → AreOctets (zeros k)
zeros_fit zero i = omega arith
zeros_fit (suc k) zero = omega arith
zeros_fit (suc k) (suc i) = zeros_fit k i

AreOctets-append : (xs ys : List ℕ) → AreOctets xs → AreOctets ys → AreOctets (xs ++ ys)
AreOctets-append [] ys p q i = q i
AreOctets-append (x ∷ xs) ys p q zero = p zero
AreOctets-append (x ∷ xs) ys p q (suc i) = AreOctets-append xs ys (λ j. p (suc j)) q i

AreOctets-take : (n : ℕ) (bytes : List ℕ) → AreOctets bytes → AreOctets (take n bytes)
AreOctets-take n bytes h i =
    elim (cases_lt i n) [
      | inl lt ↦ rw (get_or-take n bytes i 0 lt) (h i)
      | inr le ↦ rw (get_or_past (take n bytes) i 0 (omega (arith, length-take n bytes))) (omega arith)
    ]

length_zeros : (k : ℕ) → length (zeros k) ≡ k
length_zeros zero = refl
length_zeros (suc k) = omega (arith, length_zeros k)

fixed_found : (w : Width) (limit : ℕ) → IsWide w limit → (bytes : List ℕ) → AreOctets bytes → byte_len w ≤ length bytes
    → Reads (IsBelow limit) (fixed (byte_len w)) bytes (Ok (from_le_bytes w (take (byte_len w) bytes))) (drop (byte_len w) bytes)
fixed_found w limit wide bytes fits enough =
    let front = take (byte_len w) bytes in
    let len : length front ≡ byte_len w = omega (arith, length-take (byte_len w) bytes) in
    let all = AreOctets-take (byte_len w) bytes fits in (
      wide.below front all,
      rw (wide.back front len all) (sym (take-append-drop (byte_len w) bytes)),
      (λ cut. omega (arith, ap length cut.parts, cut.some, length-append bytes cut.more, wide.len cut.value)),
    )

fixed_short : (w : Width) (limit : ℕ) → IsWide w limit → (bytes : List ℕ) → AreOctets bytes → length bytes < byte_len w → Reads (IsBelow limit) (fixed (byte_len w)) bytes (Err Short) bytes
fixed_short w limit wide bytes fits few =
    let more = zeros (byte_len w - length bytes) in
    let len : length (bytes ++ more) ≡ byte_len w = omega (arith, length-append bytes more, length_zeros (byte_len w - length bytes)) in
    let all = AreOctets-append bytes more fits (zeros_fit (byte_len w - length bytes)) in (
      record {
        value = from_le_bytes w (bytes ++ more);
        more = more;
        fits = wide.below (bytes ++ more) all;
        some = omega (arith, length_zeros (byte_len w - length bytes));
        parts =
            wide.back (bytes ++ more) len all;
      },
      (λ front. omega (arith, ap length front.parts, length-append (fixed (byte_len w) front.value) front.rest, wide.len front.value)),
      refl,
    )

-- ---- what is read, of the bytes that are taken

pub found_reads : (w : Width) (limit : ℕ) → IsWide w limit → (old front rest : List ℕ) (n : ℕ) → AreOctets old → byte_len w ≤ length old → front ≡ take (byte_len w) old
    → rest ≡ drop (byte_len w) old → n ≡ from_le_bytes w front → Reads (IsBelow limit) (fixed (byte_len w)) old (Ok n) rest
found_reads w limit wide old front rest n fits enough f r is = rw (is, f, r) (fixed_found w limit wide old fits enough)

pub short_reads : (w : Width) (limit : ℕ) → IsWide w limit → (old rest : List ℕ) → AreOctets old → length old < byte_len w → rest ≡ old
    → Reads (IsBelow limit) (fixed (byte_len w)) old (Err Short) rest
short_reads w limit wide old rest fits few same = rw same (fixed_short w limit wide old fits few)
