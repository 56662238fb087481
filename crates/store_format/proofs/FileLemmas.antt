-- The parts of a file, and what its footer tells.
use Rattle.std.proofs.Common.{◌≡◌, ℕ, ◌+◌, ◌-◌, ◌<◌, ◌≤◌, ◌^◌, List, ◌++◌, length, take, drop, sym, ap, ◌∙◌, arith, append_assoc, inl, inr}
use Rattle.std.specs.Prelude.{slice_range}
use Rattle.std.proofs.Math.Seq.{drop-append_seam, take-append_seam}
use Rattle.store_base.specs.VIntLemmas.{heads}
use Rattle.store_base.specs.Serialize.{fixed}
use Rattle.store_base.specs.SerializeLemmas.{fixed_numbers_are_apart}
use Rattle.store_format.specs.StoreFile.{HasForm}

pub slice_between : (xs ys zs : List ℕ) (a b : ℕ) → a ≡ length xs → b ≡ length xs + length ys → slice_range (xs ++ (ys ++ zs)) a b ≡ ys
slice_between xs ys zs a b start end =
    let size : b - a ≡ length ys = omega arith in
    ap (λ (n : ℕ). take n (drop a (xs ++ (ys ++ zs)))) size
    ∙ ap (λ (n : ℕ). take (length ys) (drop n (xs ++ (ys ++ zs)))) start
    ∙ ap (take (length ys)) (drop-append_seam xs (ys ++ zs))
    ∙ take-append_seam ys zs

pub beginnings_apart : (v w o u : ℕ) (x y : List ℕ) → v < 2 ^ 32 → w < 2 ^ 32 → o < 2 ^ 64 → u < 2 ^ 64 → (fixed 4 v ++ fixed 8 o) ++ x ≡ (fixed 4 w ++ fixed 8 u) ++ y → (v ≡ w) × (o ≡ u) × (x ≡ y)
beginnings_apart v w o u x y vs ws os us e =
    let versions = fixed_numbers_are_apart 4 v w (fixed 8 o ++ x) (fixed 8 u ++ y) (omega arith) (omega arith) (sym (append_assoc (fixed 4 v) (fixed 8 o) x) ∙ e
    ∙ append_assoc (fixed 4 w) (fixed 8 u) y) in
    let offsets = fixed_numbers_are_apart 8 o u x y (omega arith) (omega arith) versions.1 in
    (versions.0, offsets.0, offsets.1)

pub known_version : (period version : ℕ) (reserved : List ℕ) → HasForm period version reserved → (1 ≤ version) × (version ≤ 3)
known_version period version reserved form = elim form [
  | inl old ↦ elim old.0 [ inl e ↦ (omega arith, omega arith) | inr e ↦ (omega arith, omega arith) ]
  | inr new ↦ (omega (arith, new.0), omega (arith, new.0))
]

pub known_period : (period version : ℕ) (reserved : List ℕ) → HasForm period version reserved → 2 ≤ period
known_period period version reserved form = elim form [ inl old ↦ omega (arith, old.1) | inr new ↦ new.1 ]

-- the version and the reserved bytes tell the period
pub one_period : (p q v w : ℕ) (r s : List ℕ) → HasForm p v r → HasForm q w s → v ≡ w → r ≡ s → p ≡ q
one_period p q v w r s (inl old) (inl older) vs rs = old.1 ∙ sym older.1
one_period p q v w r s (inl old) (inr new) vs rs = absurd (elim old.0 [ inl e ↦ omega (arith, new.0) | inr e ↦ omega (arith, new.0) ])
one_period p q v w r s (inr new) (inl old) vs rs = absurd (elim old.0 [ inl e ↦ omega (arith, new.0) | inr e ↦ omega (arith, new.0) ])
one_period p q v w r s (inr new) (inr newer) vs rs = heads p q new.3.0 newer.3.0 (sym new.3.1 ∙ rs ∙ newer.3.1)
