-- A footer that was read in parts.
use Rattle.std.proofs.Common.{◌≡◌, ℕ, ◌-◌, ◌<◌, ◌≤◌, ◌^◌, List, [], ◌∷◌, ◌++◌, length, take, drop, refl, sym, ◌∙◌, ap, subst, arith, append_assoc}
use Rattle.std.specs.Prelude.{Ok, Err}
use Rattle.std.proofs.Math.ListN.{get_or}
use Rattle.std.proofs.lemmas.List.{take-append-drop, take_all, length-take, length-drop}
use Rattle.store_format.specs.FooterLemmas.{version_below}
use Rattle.store_base.specs.declared.fault.DecodeFault.{DecodeFault}
use Rattle.store_base.specs.declared.fault.DecodeFault.TheVariants.{Kind, Period}
use Rattle.store_base.specs.Serialize.{fixed}
use Rattle.store_format.specs.declared.kinds.Decompressor.{Decompressor}
use Rattle.store_format.specs.declared.kinds.Decompressor.TheVariants as unpacked
use Rattle.store_format.specs.declared.footer.DocStoreFooter.{DocStoreFooter}
use Rattle.store_format.specs.declared.version.DocStoreVersion.{DocStoreVersion}
use Rattle.store_format.specs.Footer.{kind_of, version_number}
use Rattle.store_format.specs.FooterReading.{version_bytes, Begins, ReadsFooter, IsPeriodOf}

-- the first two, and the rest
two_fronts : (last : List ℕ) → 2 ≤ length last → last ≡ get_or last 0 0 ∷ get_or last 1 0 ∷ drop 2 last
two_fronts [] le = absurd (omega (arith, le))
two_fronts (a ∷ []) le = absurd (omega (arith, le))
two_fronts (a ∷ b ∷ rest) le = refl

joined : (front back old mid last : List ℕ) → old ≡ front ++ mid → mid ≡ back ++ last → old ≡ front ++ back ++ last
joined front back old mid last p q = p ∙ ap (λ (x : List ℕ). front ++ x) q ∙ sym (append_assoc front back last)

-- what is known once the version and the offset were read
pub record AreRead (v : DocStoreVersion) (offset : ℕ) (old mid last : List ℕ) : Type 0 where
  pub long : 28 ≤ length old
  pub few : offset < 2 ^ 64
  pub first : old ≡ version_bytes v ++ mid
  pub second : mid ≡ fixed 8 offset ++ last
  pub left : 16 ≤ length last

begins : (v : DocStoreVersion) (offset : ℕ) (old mid last : List ℕ) → AreRead v offset old mid last → Begins old (version_number v) offset last
begins v offset old mid last h = record {
  long = h.long;
  known = version_below v;
  few = h.few;
  parts = joined (version_bytes v) (fixed 8 offset) old mid last h.first h.second;
}

-- a kind that is not known
pub kind_fault : (v : DocStoreVersion) (offset : ℕ) (old mid last : List ℕ) (fault : DecodeFault) → AreRead v offset old mid last → fault ≡ Kind (get_or last 0 0) → (get_or last 0 0 ≡ 0 → ⊥)
    → ReadsFooter old (Err fault) old
kind_fault v offset old mid last fault h is wrong =
    subst (λ (e : DecodeFault). ReadsFooter old (Err e) old) (sym is) (
      version_number v,
      offset,
      get_or last 1 0 ∷ drop 2 last,
      subst (Begins old (version_number v) offset) (two_fronts last (omega (arith, h.left))) (begins v offset old mid last h),
      wrong,
      refl,
    )

-- a period out of its bounds
pub period_fault : (v : DocStoreVersion) (offset : ℕ) (old mid last : List ℕ) (d : Decompressor) (fault : DecodeFault) → AreRead v offset old mid last → kind_of d ≡ get_or last 0 0
    → fault ≡ Period (get_or last 1 0) → version_number v ≡ 3 → (2 ≤ get_or last 1 0 → 64 < get_or last 1 0) → ReadsFooter old (Err fault) old
period_fault v offset old mid last unpacked.None fault h kind is three wrong =
    let cells : last ≡ 0 ∷ get_or last 1 0 ∷ drop 2 last = two_fronts last (omega (arith, h.left)) ∙ ap (λ (k : ℕ). k ∷ get_or last 1 0 ∷ drop 2 last) (sym kind) in
    let P : ℕ → Type 0 = λ n. Begins old n offset (0 ∷ get_or last 1 0 ∷ drop 2 last) in
    subst (λ (e : DecodeFault). ReadsFooter old (Err e) old) (sym is) (
      offset,
      drop 2 last,
      subst P three (subst (Begins old (version_number v) offset) cells (begins v offset old mid last h)),
      wrong,
      refl,
    )

-- the last sixteen bytes, and what follows
sixteen : (last : List ℕ) → 16 ≤ length last → last ≡ (get_or last 0 0 ∷ get_or last 1 0 ∷ take 14 (drop 2 last)) ++ take (length last - 16) (drop 16 last)
sixteen [] le = absurd (omega (arith, le))
sixteen (a ∷ []) le = absurd (omega (arith, le))
sixteen (a ∷ b ∷ rest) le =
    let after : take (length (a ∷ b ∷ rest) - 16) (drop 14 rest) ≡ drop 14 rest = take_all (length (a ∷ b ∷ rest) - 16) (drop 14 rest) (omega (arith, length-drop 14 rest)) in
    ap (λ (x : List ℕ). a ∷ b ∷ x) (sym (take-append-drop 14 rest) ∙ ap (λ (x : List ℕ). take 14 rest ++ x) (sym after))

pub footer_read : (f : DocStoreFooter) (old mid last : List ℕ) → AreRead f.doc_store_version f.offset old mid last → kind_of f.decompressor ≡ get_or last 0 0
    → IsPeriodOf f.doc_store_version (get_or last 1 0) f.period → ReadsFooter old (Ok f) (take (length last - 16) (drop 16 last))
footer_read f old mid last h kind period =
    let others = take 14 (drop 2 last) in
    let reserved = get_or last 1 0 ∷ others in
    let version = version_number f.doc_store_version in
    let rest = take (length last - 16) (drop 16 last) in
    let size : length others ≡ 14 = omega (arith, length-take 14 (drop 2 last), length-drop 2 last, h.left) in
    let front = fixed 4 version ++ fixed 8 f.offset in (
      reserved,
      h.few,
      period others size,
      joined (fixed 4 version) (fixed 8 f.offset) old mid last h.first h.second
          ∙ ap (λ (x : List ℕ). front ++ x) (sixteen last h.left)
          ∙ ap (λ (k : ℕ). front ++ ((k ∷ reserved) ++ rest)) (sym kind)
          ∙ sym (append_assoc front (kind_of f.decompressor ∷ reserved) rest),
    )
