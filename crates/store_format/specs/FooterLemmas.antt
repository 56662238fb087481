-- A footer has 28 bytes, and is read again.
use Rattle.std.proofs.Common.{◌≡◌, ℕ, ◌<◌, ◌≤◌, ◌^◌, List, [], ◌∷◌, ◌++◌, suc, length, replicate, refl, sym, ◌∙◌, ap}
use Rattle.std.proofs.Common.{subst, arith, append_assoc, length-append, inl, inr}
use Rattle.std.specs.Prelude.{Result, Ok, Err}
use Rattle.store_base.specs.VIntLemmas.{heads, tails}
use Rattle.store_base.specs.declared.fault.DecodeFault.{DecodeFault}
use Rattle.store_base.specs.declared.fault.DecodeFault.TheVariants.{Short, Malformed, Version, Kind, Memory, Period}
use Rattle.store_base.specs.Reading.{IsReadBack}
use Rattle.store_base.specs.Serialize.{fixed}
use Rattle.store_base.specs.SerializeLemmas.{length-fixed, fixed_numbers_are_apart}
use Rattle.store_format.specs.declared.footer.DocStoreFooter.{DocStoreFooter}
use Rattle.store_format.specs.declared.version.DocStoreVersion.{DocStoreVersion}
use Rattle.store_format.specs.declared.version.DocStoreVersion.TheVariants.{V1, V2, V3}
use Rattle.store_format.specs.Footer.{footer, kind_of, version_number}
use Rattle.store_format.specs.declared.kinds.Decompressor.{Decompressor}
use Rattle.store_format.specs.declared.kinds.Decompressor.TheVariants as Packed
use Rattle.store_format.specs.StoreFile.{HasForm, reserved_of}
use Rattle.store_format.specs.FooterReading.{version_bytes, ReadsVersion, footer_bytes, IsFooter, ReadsFooter}

-- ---- versions

-- each version of a program is one
abbrev pub IsVersion : DocStoreVersion → Type 0
IsVersion v = Unit {0}

pub version_below : (v : DocStoreVersion) → (1 ≤ version_number v) × (version_number v ≤ 3)
version_below V1 = (omega arith, omega arith)
version_below V2 = (omega arith, omega arith)
version_below V3 = (omega arith, omega arith)

pub version_keeps : (old : List ℕ) (e : DecodeFault) (new : List ℕ) → ReadsVersion old (Err e) new → new ≡ old
version_keeps old Short new h = h.1
version_keeps old (Version v) new h = h.3
version_keeps old Malformed new h = absurd h
version_keeps old (Kind k) new h = absurd h
version_keeps old (Period p) new h = absurd h
version_keeps old Memory new h = absurd h

pub version_reads_back : (v : DocStoreVersion) (rest : List ℕ) (outcome : Result DocStoreVersion DecodeFault)
    (new : List ℕ) → IsVersion v → ReadsVersion (version_bytes v ++ rest) outcome new
    → IsReadBack version_bytes v rest outcome new
version_reads_back v rest (Ok w) new is h =
    let same = fixed_numbers_are_apart 4 (version_number v) (version_number w) rest new
    (omega (arith, (version_below v).1)) (omega (arith, (version_below w).1)) h in
    (ap (fixed 4) (sym same.0), sym same.1)
version_reads_back v rest (Err Short) new is h = absurd
    (omega (arith, h.0, length-append (version_bytes v) rest, length-fixed 4 (version_number v)))
version_reads_back v rest (Err (Version n)) new is h =
    let same = fixed_numbers_are_apart 4 (version_number v) n rest h.0 (omega (arith, (version_below v).1))
    (omega (arith, h.1.below)) h.2 in
    let known = version_below v in
    absurd (omega (arith, same.0, known.0, known.1, h.1.unknown (omega (arith, same.0, known.0))))
version_reads_back v rest (Err Malformed) new is h = absurd h
version_reads_back v rest (Err (Kind k)) new is h = absurd h
version_reads_back v rest (Err (Period p)) new is h = absurd h
version_reads_back v rest (Err Memory) new is h = absurd h

-- ---- footers

pub length-footer_bytes : (f : DocStoreFooter) → length (footer_bytes f) ≡ 28
length-footer_bytes f =
    omega (
      arith,
      length-append (fixed 4 3 ++ fixed 8 f.offset) (kind_of f.decompressor ∷ reserved_of f.period 3),
      length-append (fixed 4 3) (fixed 8 f.offset),
      length-fixed 4 3,
      length-fixed 8 f.offset,
    )

pub footer_keeps : (old : List ℕ) (e : DecodeFault) (new : List ℕ) → ReadsFooter old (Err e) new → new ≡ old
footer_keeps old Short new h = h.1
footer_keeps old (Version v) new h = h.4
footer_keeps old (Kind k) new h = h.5
footer_keeps old (Period p) new h = h.4
footer_keeps old Malformed new h = absurd h
footer_keeps old Memory new h = absurd h

-- two beginnings of a footer are one
same_begin : (v w o q : ℕ) (r s : List ℕ) → v < 2 ^ 32 → w < 2 ^ 32 → o < 2 ^ 64 → q < 2 ^ 64
    → fixed 4 v ++ fixed 8 o ++ r ≡ fixed 4 w ++ fixed 8 q ++ s → (v ≡ w) × (o ≡ q) × (r ≡ s)
same_begin v w o q r s a b c d e =
    let first = fixed_numbers_are_apart 4 v w (fixed 8 o ++ r) (fixed 8 q ++ s) (omega (arith, a)) (omega (arith, b))
    (sym (append_assoc (fixed 4 v) (fixed 8 o) r) ∙ e ∙ append_assoc (fixed 4 w) (fixed 8 q) s) in
    let second = fixed_numbers_are_apart 8 o q r s (omega (arith, c)) (omega (arith, d)) first.1 in
    (first.0, second.0, second.1)

-- the same number of front bytes was cut from equal lists
same_back : (r s x y : List ℕ) → length r ≡ length s → r ++ x ≡ s ++ y → (r ≡ s) × (x ≡ y)
same_back [] [] x y size e = (refl, e)
same_back [] (b ∷ s) x y size e = absurd (omega (arith, size))
same_back (a ∷ r) [] x y size e = absurd (omega (arith, size))
same_back (a ∷ r) (b ∷ s) x y size e =
    let first = heads a b (r ++ x) (s ++ y) e in
    let others = same_back r s x y (omega (arith, size)) (tails a b (r ++ x) (s ++ y) e) in
    (λ i. first i ∷ others.0 i, others.1)

pub kind_zero : (d : Decompressor) → kind_of d ≡ 0
kind_zero Packed.None = refl

-- the written footer, what follows the offset set apart
written_is : (f : DocStoreFooter) (rest : List ℕ) → footer_bytes f ++ rest
    ≡ fixed 4 3 ++ fixed 8 f.offset ++ (kind_of f.decompressor ∷ f.period ∷ (replicate 14 0 ++ rest))
written_is f rest = append_assoc (fixed 4 3 ++ fixed 8 f.offset)
    (kind_of f.decompressor ∷ f.period ∷ replicate 14 0) rest

pub form_reserved : (period version : ℕ) (reserved : List ℕ) → HasForm period version reserved → length reserved ≡ 15
form_reserved period version reserved (inl old) = old.2
form_reserved period version reserved (inr new) = ap length new.3.1 ∙ ap suc new.3.2

-- version 3 says the period
form_period : (period : ℕ) (reserved : List ℕ) (first : ℕ) (others : List ℕ) → HasForm period 3 reserved
    → reserved ≡ first ∷ others → period ≡ first
form_period period reserved first others (inl old) e = elim old.0 [ inl one ↦ absurd cc | inr two ↦ absurd cc ]
form_period period reserved first others (inr new) e = heads period first new.3.0 others (sym new.3.1 ∙ e)

pub footer_reads_back : (f : DocStoreFooter) (rest : List ℕ) (outcome : Result DocStoreFooter DecodeFault)
    (new : List ℕ) → IsFooter f → ReadsFooter (footer_bytes f ++ rest) outcome new
    → IsReadBack footer_bytes f rest outcome new
footer_reads_back f rest (Ok g) new is h =
    let known = version_below g.doc_store_version in
    let parts = sym (written_is f rest) ∙ h.3 ∙ append_assoc
    (fixed 4 (version_number g.doc_store_version) ++ fixed 8 g.offset) (kind_of g.decompressor ∷ h.0) new in
    let same = same_begin 3 (version_number g.doc_store_version) f.offset g.offset _ _ (omega arith)
    (omega (arith, known.1)) is.offset h.1 parts in
    let back = same_back (kind_of f.decompressor ∷ f.period ∷ replicate 14 0) (kind_of g.decompressor ∷ h.0) rest new
    (sym (ap suc (form_reserved g.period (version_number g.doc_store_version) h.0 h.2))) same.2 in
    let reserved : h.0 ≡ f.period ∷ replicate 14 0 = sym (tails _ _ _ _ back.0) in
    let form : HasForm g.period 3 h.0 = subst (λ (v : ℕ). HasForm g.period v h.0) (sym same.0) h.2 in
    let period : g.period ≡ f.period = form_period g.period h.0 f.period (replicate 14 0) form reserved in
    let kind : kind_of g.decompressor ≡ kind_of f.decompressor = kind_zero g.decompressor
    ∙ sym (kind_zero f.decompressor) in
    ((λ i. footer 3 (sym same.1 i) (kind i) (period i ∷ replicate 14 0)), sym back.1)
footer_reads_back f rest (Err Short) new is h = absurd
    (omega (arith, h.0, length-append (footer_bytes f) rest, length-footer_bytes f))
footer_reads_back f rest (Err (Version v)) new is h =
    let parts = sym (append_assoc (fixed 4 3) (fixed 8 f.offset) _) ∙ sym (written_is f rest) ∙ h.3 in
    let same = fixed_numbers_are_apart 4 3 v _ h.0 (omega arith) (omega (arith, h.2.below)) parts in
    absurd (omega (arith, same.0, h.2.unknown (omega (arith, same.0))))
footer_reads_back f rest (Err (Kind k)) new is h =
    let begin = h.3 in
    let same = same_begin 3 h.0 f.offset h.1 _ _ (omega arith) (omega (arith, begin.known.1)) is.offset begin.few
    (sym (written_is f rest) ∙ begin.parts) in
    absurd (h.4 (sym (heads _ _ _ _ same.2) ∙ kind_zero f.decompressor))
footer_reads_back f rest (Err (Period p)) new is h =
    let begin = h.2 in
    let same = same_begin 3 3 f.offset h.0 _ _ (omega arith) (omega arith) is.offset begin.few (sym (written_is f rest)
    ∙ begin.parts) in
    let period : f.period ≡ p = heads _ _ _ _ (tails _ _ _ _ same.2) in
    absurd (omega (arith, period, is.least, is.most, h.3 (omega (arith, period, is.least))))
footer_reads_back f rest (Err Malformed) new is h = absurd h
footer_reads_back f rest (Err Memory) new is h = absurd h
