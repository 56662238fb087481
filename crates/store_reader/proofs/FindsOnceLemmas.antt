-- The bytes of a file decide what is found in them.
use Rattle.std.proofs.Common.{◌≡◌, ◌⊎◌, inl, inr, ℕ, ◌-◌, ◌<◌, ◌^◌, true, false, List, ◌∷◌, ◌++◌, length, nat_lt, refl, sym, ap, ◌∙◌, arith, append_assoc}
use Rattle.std.specs.Prelude.{Result, Ok, Err, slice_range}
use Rattle.std.proofs.lemmas.Bool.{ltb-true, ltb-false}
use Rattle.std.proofs.lemmas.List.{append-nil}
use Rattle.store_format.specs.FooterLemmas.{kind_zero}
use Rattle.store_base.specs.VIntLemmas.{heads, tails}
use Rattle.store_base.specs.Serialize.{fixed}
use Rattle.store_base.specs.SerializeLemmas.{fixed_numbers_are_apart}
use Rattle.store_base.specs.declared.error.StoreError.{StoreError}
use Rattle.store_base.specs.declared.error.StoreError.TheVariants.{BadVersion, BadBlockKind, BadPeriod, Memory}
use Rattle.store_format.specs.declared.footer.DocStoreFooter.{DocStoreFooter}
use Rattle.store_format.specs.Extraction.{Says}
use Rattle.store_format.specs.Footer.{footer as footer_text, kind_of, version_number}
use Rattle.store_format.specs.FooterReading.{Begins, IsUnknown}
use Rattle.store_reader.specs.Finding.{FindsFooter, FindsIndex, FindsFrom, Finds}
use Rattle.store_format.proofs.FileLemmas.{beginnings_apart, known_version}
use Rattle.store_reader.proofs.RefusedLemmas.{not_refused}

begins_once : (b : List ℕ) (v w o u : ℕ) (x y : List ℕ) → Begins b v o x → Begins b w u y → (v ≡ w) × (o ≡ u) × (x ≡ y)
begins_once b v w o u x y p q =
    let small = p.few in let few = q.few in let known = p.known.1 in let told = q.known.1 in
    beginnings_apart v w o u x y (omega arith) (omega arith) small few (sym p.parts ∙ q.parts)

unknown_apart : (b rest : List ℕ) (v w o : ℕ) (x : List ℕ) → IsUnknown v → b ≡ fixed 4 v ++ rest → Begins b w o x → ⊥
unknown_apart b rest v w o x un is p =
    let below = un.below in let few = p.known.1 in let one = p.known.0 in
    let same = fixed_numbers_are_apart 4 v w rest (fixed 8 o ++ x) (omega arith) (omega arith) (sym is ∙ p.parts ∙ append_assoc (fixed 4 w) (fixed 8 o) x) in
    let first = same.0 in let past = un.unknown (omega arith) in
    omega arith

-- 28 bytes are refused in one way
says_once : (b : List ℕ) (e d : StoreError) → Says b (Err e) → Says b (Err d) → d ≡ e
says_once b (BadVersion v) (BadVersion w) p q =
    let below = p.2.below in let under = q.2.below in
    let same = fixed_numbers_are_apart 4 w v q.0 p.0 (omega arith) (omega arith) (sym q.3 ∙ p.3) in
    ap BadVersion same.0
says_once b (BadVersion v) (BadBlockKind k) p q = absurd (unknown_apart b p.0 v q.0 q.1 (k ∷ q.2) p.2 p.3 q.3)
says_once b (BadVersion v) (BadPeriod n) p q = absurd (unknown_apart b p.0 v 3 q.0 (0 ∷ (n ∷ q.1)) p.2 p.3 q.2)
says_once b (BadBlockKind k) (BadVersion w) p q = absurd (unknown_apart b q.0 w p.0 p.1 (k ∷ p.2) q.2 q.3 p.3)
says_once b (BadBlockKind k) (BadBlockKind j) p q =
    ap BadBlockKind (heads j k q.2 p.2 (begins_once b q.0 p.0 q.1 p.1 (j ∷ q.2) (k ∷ p.2) q.3 p.3).2)
says_once b (BadBlockKind k) (BadPeriod n) p q = absurd (p.4 (heads k 0 p.2 (n ∷ q.1) (begins_once b p.0 3 p.1 q.0 (k ∷ p.2) (0 ∷ (n ∷ q.1)) p.3 q.2).2))
says_once b (BadPeriod m) (BadVersion w) p q = absurd (unknown_apart b q.0 w 3 p.0 (0 ∷ (m ∷ p.1)) q.2 q.3 p.2)
says_once b (BadPeriod m) (BadBlockKind j) p q = absurd (q.4 (heads j 0 q.2 (m ∷ p.1) (begins_once b q.0 3 q.1 p.0 (j ∷ q.2) (0 ∷ (m ∷ p.1)) q.3 p.2).2))
says_once b (BadPeriod m) (BadPeriod n) p q =
    let same = begins_once b 3 3 q.0 p.0 (0 ∷ (n ∷ q.1)) (0 ∷ (m ∷ p.1)) q.2 p.2 in
    ap BadPeriod (heads n m q.1 p.1 (tails 0 0 (n ∷ q.1) (m ∷ p.1) same.2))
says_once b (BadVersion v) d p q = absurd q
says_once b (BadBlockKind k) d p q = absurd q
says_once b (BadPeriod m) d p q = absurd q
says_once b e d p q = absurd p

-- the text of a footer that was found
text_of : (b : List ℕ) (f : DocStoreFooter) (p : Says b (Ok f)) → b ≡ footer_text (version_number f.doc_store_version) f.offset 0 p.0
text_of b f p =
    p.3 ∙ append-nil (footer_text (version_number f.doc_store_version) f.offset (kind_of f.decompressor) p.0)
    ∙ ap (λ (k : ℕ). footer_text (version_number f.doc_store_version) f.offset k p.0) (kind_zero f.decompressor)

-- bytes that say a footer are not refused
says_no_refusal : (b : List ℕ) (f : DocStoreFooter) (e : StoreError) → Says b (Ok f) → Says b (Err e) → ⊥
says_no_refusal b f e p q = not_refused b f.period (version_number f.doc_store_version) f.offset p.0 e p.2 p.1 (text_of b f p) q

-- they say one offset
says_one : (b : List ℕ) (f g : DocStoreFooter) → Says b (Ok f) → Says b (Ok g) → f.offset ≡ g.offset
says_one b f g p q =
    let v = version_number f.doc_store_version in let w = version_number g.doc_store_version in
    let here = known_version f.period v p.0 p.2 in let there = known_version g.period w q.0 q.2 in
    let small : v < 2 ^ 32 = omega (arith, here.1) in let few : w < 2 ^ 32 = omega (arith, there.1) in
    (beginnings_apart v w f.offset g.offset (0 ∷ p.0) (0 ∷ q.0) small few p.1 q.1 (sym (text_of b f p) ∙ text_of b g q)).1

footers_once : (b : List ℕ) (e d : StoreError) → FindsFooter b (Err e) → FindsFooter b (Err d) → d ≡ e
footers_once b e d p q = (elim (nat_lt (length b) 28) as (λ y. nat_lt (length b) 28 ≡ y → d ≡ e) [
  | true ↦ λ t. let lt = ltb-true _ _ t in let one = p.short lt in let other = q.short lt in cc
  | false ↦ λ t. let le = ltb-false _ _ t in says_once (slice_range b (length b - 28) (length b)) e d (p.long le) (q.long le)
]) refl

pub footer_or_refusal : (b : List ℕ) (f : DocStoreFooter) (e : StoreError) → FindsFooter b (Ok f) → FindsFooter b (Err e) → ⊥
footer_or_refusal b f e p q = (elim (nat_lt (length b) 28) as (λ y. nat_lt (length b) 28 ≡ y → ⊥) [
  | true ↦ λ t. let no = p.short (ltb-true _ _ t) in cc
  | false ↦ λ t. let le = ltb-false _ _ t in says_no_refusal (slice_range b (length b - 28) (length b)) f e (p.long le) (q.long le)
]) refl

pub one_footer : (b : List ℕ) (f g : DocStoreFooter) → FindsFooter b (Ok f) → FindsFooter b (Ok g) → f.offset ≡ g.offset
one_footer b f g p q = (elim (nat_lt (length b) 28) as (λ y. nat_lt (length b) 28 ≡ y → f.offset ≡ g.offset) [
  | true ↦ λ t. let no = p.short (ltb-true _ _ t) in absurd cc
  | false ↦ λ t. let le = ltb-false _ _ t in says_one (slice_range b (length b - 28) (length b)) f g (p.long le) (q.long le)
]) refl

-- an index is refused in one way, want of memory aside
indexes_once : (b : List ℕ) (f g : DocStoreFooter) (e d : StoreError) → f.offset ≡ g.offset → FindsIndex b f (Err e) → FindsIndex b g (Err d) → (d ≡ e) ⊎ (e ≡ Memory) ⊎ (d ≡ Memory)
indexes_once b f g e d same p q = (elim (nat_lt (length b - 28) f.offset) as (λ y. nat_lt (length b - 28) f.offset ≡ y → (d ≡ e) ⊎ (e ≡ Memory) ⊎ (d ≡ Memory)) [
  | true ↦ λ t. let lt = ltb-true _ _ t in let one = p.past lt in let other = q.past (omega arith) in let is : d ≡ e = cc in inl is
  | false ↦ λ t. let le = ltb-false _ _ t in elim (p.within le) [
    | inr memory ↦ inr (inl memory)
    | inl bad ↦ elim (q.within (omega arith)) [ inr memory ↦ inr (inr memory) | inl worse ↦ inl (worse.0 ∙ sym bad.0) ]
  ]
]) refl

pub refused_once : (b : List ℕ) (e d : StoreError) → Finds b (Err e) → Finds b (Err d) → (d ≡ e) ⊎ (e ≡ Memory) ⊎ (d ≡ Memory)
refused_once b e d p q = go p.footer q.footer p.reads q.reads p.goes_on q.goes_on
  where
    go : (said told : Result DocStoreFooter StoreError) → FindsFooter b said → FindsFooter b told → FindsFrom b said (Err e) → FindsFrom b told (Err d) → (d ≡ e) ⊎ (e ≡ Memory) ⊎ (d ≡ Memory)
    go (Err x) (Err y) r s on off = let same = footers_once b x y r s in let is : d ≡ e = cc in inl is
    go (Err x) (Ok g) r s on off = absurd (footer_or_refusal b g x s r)
    go (Ok f) (Err y) r s on off = absurd (footer_or_refusal b f y r s)
    go (Ok f) (Ok g) r s on off = indexes_once b f g e d (one_footer b f g r s) on off
