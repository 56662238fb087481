-- An honest file that was refused is no store, failed reads and memory aside.
use Rattle.std.proofs.Common.{◌≡◌, ℕ, ◌+◌, ◌-◌, ◌<◌, ◌≤◌, ◌^◌, true, false, List, [], ◌∷◌, ◌++◌, length, nat_lt, refl, sym, ap, ◌∙◌, subst, arith, append_assoc, length-append, inl, inr, ◌⊎◌}
use Rattle.std.specs.Prelude.{Result, Ok, Err, IsTrue, slice_range}
use Rattle.std.proofs.lemmas.Bool.{ltb-true, ltb-false}
use Rattle.std.proofs.lemmas.List.{append-nil}
use Rattle.store_format.specs.FooterLemmas.{form_reserved}
use Rattle.store_base.specs.VIntLemmas.{heads, tails}
use Rattle.store_base.specs.Files.{Part}
use Rattle.store_base.specs.Serialize.{fixed}
use Rattle.store_base.specs.SerializeLemmas.{fixed_numbers_are_apart}
use Rattle.store_base.specs.declared.error.StoreError.{StoreError}
use Rattle.store_base.specs.declared.error.StoreError.TheVariants.{BadVersion, BadBlockKind, Read, Memory, BadPeriod}
use Rattle.store_format.specs.declared.footer.DocStoreFooter.{DocStoreFooter}
use Rattle.layered_index.specs.Checkpoint.{Covers}
use Rattle.store_format.specs.Extraction.{Says, SaysFrom, ExtractsFooter}
use Rattle.store_format.specs.FileReading.{Comes}
use Rattle.store_format.specs.Footer.{footer, version_number}
use Rattle.layered_index.specs.Layers.{index_part}
use Rattle.store_reader.specs.Opening.{IndexFrom, ReadsIndex, Opens, OpensFrom, IsSomeStore, RefusesNoStore}
use Rattle.store_format.specs.StoreFile.{data_of, checkpoints_of, HasForm}
use Rattle.store_format.proofs.ExtractionLemmas.{length-footer}
use Rattle.store_reader.proofs.OpenedLemmas.{IsTail, tail_of}
use Rattle.store_format.proofs.StoreLemmas.{data_fits}
use Rattle.store_format.proofs.FileLemmas.{slice_between, beginnings_apart, known_version, one_period}
use Rattle.store_format.proofs.StoreLemmas.{checkpoints_cover}

-- ---- the parts of a file

-- where the parts of a store's file stand
pub record HasParts (content : List ℕ) (s : IsSomeStore content) : Type 0 where
  pub size : length content ≡ length (data_of s.blocks) + length (index_part s.period (checkpoints_of s.blocks)) + 28
  pub front : slice_range content 0 (length (data_of s.blocks)) ≡ data_of s.blocks
  pub index : slice_range content (length (data_of s.blocks)) (length content - 28) ≡ index_part s.period (checkpoints_of s.blocks)
  pub tail : slice_range content (length content - 28) (length content) ≡ footer s.version (length (data_of s.blocks)) 0 s.store.reserved

pub parts_of : (content : List ℕ) (s : IsSomeStore content) → HasParts content s
parts_of content s =
    let data_bytes = data_of s.blocks in
    let index = index_part s.period (checkpoints_of s.blocks) in
    let foot = footer s.version (length data_bytes) 0 s.store.reserved in
    let foot_len : length foot ≡ 28 = length-footer s.version (length data_bytes) 0 s.store.reserved (form_reserved s.period s.version s.store.reserved s.store.form) in
    let whole : length content ≡ length data_bytes + length index + 28 = omega (arith, ap length s.store.parts, length-append (data_bytes ++ index) foot, length-append data_bytes index) in
    let right : content ≡ data_bytes ++ (index ++ foot) = s.store.parts ∙ append_assoc data_bytes index foot in
    let last : content ≡ (data_bytes ++ index) ++ (foot ++ []) = s.store.parts ∙ ap (λ (x : List ℕ). (data_bytes ++ index) ++ x) (sym (append-nil foot)) in
    record {
      size = whole;
      front = ap (λ (x : List ℕ). slice_range x 0 (length data_bytes)) right ∙ slice_between [] data_bytes (index ++ foot) 0 (length data_bytes) refl (omega arith);
      index = ap (λ (x : List ℕ). slice_range x (length data_bytes) (length content - 28)) right ∙ slice_between data_bytes index foot (length data_bytes) (length content - 28) refl (omega arith);
      tail = ap (λ (x : List ℕ). slice_range x (length content - 28) (length content)) last
          ∙ slice_between (data_bytes ++ index) foot [] (length content - 28) (length content) (omega (arith, length-append data_bytes index)) (omega (arith, length-append data_bytes index));
    }

-- ---- footers

-- the period of version 3 is sound
sound_period : (p q : ℕ) (r rest : List ℕ) → HasForm p 3 r → r ≡ q ∷ rest → (2 ≤ q) × (q ≤ 64)
sound_period p q r rest (inl old) e = absurd (elim old.0 [ inl f ↦ omega arith | inr f ↦ omega arith ])
sound_period p q r rest (inr new) e = let same = heads p q new.3.0 rest (sym new.3.1 ∙ e) in let two = new.1 in let few = new.2 in (omega arith, omega arith)

-- the footer of a store is not refused
pub not_refused : (b : List ℕ) (p v o : ℕ) (r : List ℕ) (e : StoreError) → HasForm p v r → o < 2 ^ 64 → b ≡ footer v o 0 r → Says b (Err e) → ⊥
not_refused b p v o r (BadVersion w) form few is says =
    let known = known_version p v r form in
    let below = says.2.below in
    let same = fixed_numbers_are_apart 4 v w (fixed 8 o ++ (0 ∷ r)) says.0 (omega arith) (omega arith) (sym (append_assoc (fixed 4 v) (fixed 8 o) (0 ∷ r)) ∙ sym is ∙ says.3) in
    let one : 1 ≤ w = omega (arith, same.0) in
    omega (arith, same.0, says.2.unknown one)
not_refused b p v o r (BadBlockKind k) form few is says =
    let known = known_version p v r form in
    let begins = says.3 in
    let some = begins.known in let small = begins.few in
    let same = beginnings_apart v says.0 o says.1 (0 ∷ r) (k ∷ says.2) (omega arith) (omega arith) few small (sym is ∙ begins.parts) in
    says.4 (sym (heads 0 k r says.2 same.2))
not_refused b p v o r (BadPeriod q) form few is says =
    let known = known_version p v r form in
    let begins = says.2 in
    let small = begins.few in
    let same = beginnings_apart v 3 o says.0 (0 ∷ r) (0 ∷ (q ∷ says.1)) (omega arith) (omega arith) few small (sym is ∙ begins.parts) in
    let sound = sound_period p q r says.1 (subst (λ (x : ℕ). HasForm p x r) same.0 form) (tails 0 0 r (q ∷ says.1) same.2) in
    omega (arith, says.3 sound.0, sound.1)
not_refused b p v o r e form few is says = absurd says

-- the footer that was read is the store's
pub record IsFooterOf (content : List ℕ) (s : IsSomeStore content) (f : DocStoreFooter) : Type 0 where
  pub offset : f.offset ≡ length (data_of s.blocks)
  pub period : f.period ≡ s.period
  pub version : version_number f.doc_store_version ≡ s.version

pub footer_of : (content : List ℕ) (s : IsSomeStore content) (f : DocStoreFooter) → IsTail content f → IsFooterOf content s f
footer_of content s f tail =
    let parts = parts_of content s in
    let v = version_number f.doc_store_version in
    let here = known_version f.period v tail.reserved tail.form in
    let there = known_version s.period s.version s.store.reserved s.store.form in
    let same = beginnings_apart v s.version f.offset (length (data_of s.blocks)) (0 ∷ tail.reserved) (0 ∷ s.store.reserved) (omega (arith, here.1)) (omega (arith, there.1)) tail.few
    (data_fits s.blocks s.store.blocks) (sym tail.tail ∙ parts.tail) in
    record {
      offset = same.1;
      period = one_period f.period s.period v s.version tail.reserved s.store.reserved tail.form s.store.form same.0 (tails 0 0 tail.reserved s.store.reserved same.2);
      version = same.0;
    }

-- ---- refusals

by_read : (content : List ℕ) (e d : StoreError) → ◌≡◌ {A = StoreError} e d → (d ≡ Read) ⊎ (d ≡ Memory) → RefusesNoStore content e
by_read content e d same (inl r) = inl (same ∙ r)
by_read content e d same (inr m) = inr (inl (same ∙ m))

footer_refused : (old mid : Part) (e : StoreError) → IsTrue old.honest → ExtractsFooter old (Err e) mid → RefusesNoStore old.content e
footer_refused old mid e honest r = (elim (nat_lt (length old.content) 28) as (λ y. nat_lt (length old.content) 28 ≡ y → RefusesNoStore old.content e) [
  | true ↦ λ t. let short = ltb-true _ _ t in inr (inr (λ s. let size = (parts_of old.content s).size in omega arith))
  | false ↦ λ t. let le = ltb-false _ _ t in let long = r.long le in go long.0 long.1 long.2
]) refl
  where
    go : (came : Result (List ℕ) StoreError) → Comes old (length old.content - 28) (length old.content) came mid → SaysFrom came (Err e) → RefusesNoStore old.content e
    go (Err d) comes is = by_read old.content e d (cc) comes.only
    go (Ok b) comes is = inr (inr (λ s.
        let parts = parts_of old.content s in
        not_refused b s.period s.version (length (data_of s.blocks)) s.store.reserved e s.store.form (data_fits s.blocks s.store.blocks) (comes.bytes honest ∙ parts.tail) is))

index_refused : (mid new : Part) (f : DocStoreFooter) (e : StoreError) → IsTrue mid.honest → IsTail mid.content f → ReadsIndex mid f (Err e) new → RefusesNoStore mid.content e
index_refused mid new f e honest tail r = (elim (nat_lt (length mid.content - 28) f.offset) as (λ y. nat_lt (length mid.content - 28) f.offset ≡ y → RefusesNoStore mid.content e) [
  | true ↦ λ t. let past = ltb-true _ _ t in inr (inr (λ s. let size = (parts_of mid.content s).size in let at = (footer_of mid.content s f tail).offset in omega arith))
  | false ↦ λ t. let le = ltb-false _ _ t in let read = r.within le in go read.0 read.1 read.2
]) refl
  where
    go : (came : Result (List ℕ) StoreError) → Comes mid f.offset (length mid.content - 28) came new → IndexFrom f came (Err e) → RefusesNoStore mid.content e
    go (Err d) comes is = by_read mid.content e d (cc) comes.only
    go (Ok bytes) comes is = elim is [
      | inl bad ↦ inr (inr (λ s.
          let parts = parts_of mid.content s in
          let foot = footer_of mid.content s f tail in
          bad.1 (
            checkpoints_of s.blocks,
            record {
              covers = subst (λ (n : ℕ). Covers (checkpoints_of s.blocks) n) (sym foot.offset) (checkpoints_cover s.blocks s.store.blocks);
              spells = comes.bytes honest ∙ ap (λ (n : ℕ). slice_range mid.content n (length mid.content - 28)) foot.offset ∙ parts.index
                  ∙ ap (λ (p : ℕ). index_part p (checkpoints_of s.blocks)) (sym foot.period);
            },
          )))
      | inr memory ↦ inr (inl memory)
    ]

refused_from : (old mid new : Part) (said : Result DocStoreFooter StoreError) (e : StoreError) → IsTrue old.honest → ExtractsFooter old said mid → OpensFrom mid said (Err e) new
    → RefusesNoStore old.content e
refused_from old mid new (Err d) e honest reads on =
    let same : ◌≡◌ {A = StoreError} d e = let is = on.0 in cc in
    subst (RefusesNoStore old.content) same (footer_refused old mid d honest reads)
refused_from old mid new (Ok f) e honest reads on =
    let tail = tail_of old mid f honest reads in
    subst (λ (bytes : List ℕ). RefusesNoStore bytes e) tail.1
    (index_refused mid new f e (subst IsTrue (sym tail.2) honest) (subst (λ (bytes : List ℕ). IsTail bytes f) (sym tail.1) tail.0) on)

pub refused_is_none : (old new : Part) (e : StoreError) → IsTrue old.honest → Opens old (Err e) new → RefusesNoStore old.content e
refused_is_none old new e honest o = refused_from old o.mid new o.footer e honest o.reads o.goes_on
