-- What is found first in the bytes of a file, and the one store that they may be the file of.
use Rattle.std.proofs.Common.{◌≡◌, ◌↔◌, ◌⊎◌, inl, inr, ℕ, ◌-◌, ◌<◌, ◌≤◌, List, length, Option, Some, refl, sym, ap, ◌∙◌, subst, arith}
use Rattle.std.specs.Prelude.{slice_get, Result, Ok, Err}
use Rattle.std.proofs.lemmas.Bool.{ltb-true, ltb-false}
use Rattle.std.proofs.Common.{true, false, nat_lt}
use Rattle.store_base.specs.Outcome.{number_of}
use Rattle.store_base.specs.declared.error.StoreError.{StoreError}
use Rattle.store_base.specs.declared.error.StoreError.TheVariants.{ShortFile, BadVersion, BadBlockKind, BadPeriod, BadOffset, BadIndex}
use Rattle.store_base.specs.declared.error.StoreError.TheVariants.{InvalidArgument, DamagedDocument, Memory}
use Rattle.store_format.specs.declared.footer.DocStoreFooter.{DocStoreFooter}
use Rattle.store_format.specs.Extraction.{Says}
use Rattle.store_format.specs.Block.{Slot, doc, damaged}
use Rattle.store_format.specs.Slots.{slots}
use Rattle.store_format.specs.StoreFile.{StoreBlock, checkpoints_of}
use Rattle.store_format.proofs.ApartLemmas.{stores_are_apart}
use Rattle.store_reader.specs.CallAnswers.{exact_result}
use Rattle.store_reader.specs.Opening.{IsSomeStore}
use Rattle.store_reader.specs.StoreSlices.{document_in, count_of_store, RefusesOne}
use Rattle.store_reader.specs.StoreTails.{HasIndexIn}
use Rattle.store_reader.specs.Finding.{FindsFooter, FindsIndex, FindsFrom, Finds}
use Rattle.store_reader.proofs.FindsOnceLemmas.{footer_or_refusal, one_footer, refused_once}
use Rattle.store_reader.proofs.StoreSliceLemmas.{err_not_ok, finds_footer, finds_past}
use Rattle.store_c.specs.declared.place.Place.{Place}
use Rattle.store_c.specs.Calls.{HasCounts, HasSlot, RefusesFile}
use Rattle.store_c.specs.Getting.{IsPlaceIn, RefusesGet, RefusesHead}

-- ---- the store of a file

pub same_store : (file : List ℕ) (s t : IsSomeStore file) → (s.version ≡ t.version) × (s.blocks ≡ t.blocks)
same_store file s t = let same = stores_are_apart s.period t.period file s.version t.version s.blocks t.blocks s.store t.store in (same.1, same.2)

pub one_slot : (file : List ℕ) (id : ℕ) (a b : Option Slot) → HasSlot file id a → HasSlot file id b → a ≡ b
one_slot file id a b h k = sym h.slot ∙ ap (λ (bs : List StoreBlock). slice_get (slots bs) id) (same_store file h.store k.store).1 ∙ k.slot

-- it has one number of blocks and of documents
pub same_counts : (file : List ℕ) (s : IsSomeStore file) (blocks docs : ℕ) → HasCounts file blocks docs → (length (checkpoints_of s.blocks) ≡ blocks) × (count_of_store file s ≡ docs)
same_counts file s blocks docs h =
    let same = (same_store file s h.store).1 in
    (ap (λ (bs : List StoreBlock). length (checkpoints_of bs)) same ∙ sym h.blocks, ap (λ (bs : List StoreBlock). length (slots bs)) same ∙ sym h.docs)

-- ---- the first refusal

pub refused_first : (file : List ℕ) (number : ℕ) (d : StoreError) → RefusesFile file number → Finds file (Err d) → (d ≡ Memory → ⊥) → number_of d ≡ number
refused_first file number d r finds kept = elim (refused_once file r.error d r.finds finds) [
  | inl same ↦ ap number_of same ∙ sym r.is
  | inr memory ↦ elim memory [ inl m ↦ absurd (r.kept m) | inr m ↦ absurd (kept m) ]
]

-- a footer is not refused for want of memory
footer_takes_none : (tail : List ℕ) → FindsFooter tail (Err Memory) → ⊥
footer_takes_none tail finds = (elim (nat_lt (length tail) 28) as (λ y. nat_lt (length tail) 28 ≡ y → ⊥) [
  | true ↦ λ t. let no = finds.short (ltb-true _ _ t) in cc
  | false ↦ λ t. finds.long (ltb-false _ _ t)
]) refl

says_number : (b : List ℕ) (e : StoreError) → Says b (Err e) → (number_of e ≤ 3) ⊎ (number_of e ≡ 16)
says_number b (BadVersion v) says = inl (omega arith)
says_number b (BadBlockKind k) says = inl (omega arith)
says_number b (BadPeriod p) says = inr refl
says_number b e says = absurd says

pub footer_number : (tail : List ℕ) (e : StoreError) → FindsFooter tail (Err e) → (number_of e ≤ 3) ⊎ (number_of e ≡ 16)
footer_number tail e finds = (elim (nat_lt (length tail) 28) as (λ y. nat_lt (length tail) 28 ≡ y → (number_of e ≤ 3) ⊎ (number_of e ≡ 16)) [
  | true ↦ λ t. let is = finds.short (ltb-true _ _ t) in let same : e ≡ ShortFile (length tail) = cc in inl (omega (arith, ap number_of same))
  | false ↦ λ t. says_number _ e (finds.long (ltb-false _ _ t))
]) refl

-- a file that has one is as long as it
pub footer_fits : (file : List ℕ) (f : DocStoreFooter) → FindsFooter file (Ok f) → 28 ≤ length file
footer_fits file f finds = (elim (nat_lt (length file) 28) as (λ y. nat_lt (length file) 28 ≡ y → 28 ≤ length file) [
  | true ↦ λ t. let no = finds.short (ltb-true _ _ t) in absurd cc
  | false ↦ λ t. ltb-false _ _ t
]) refl

index_cause : (file : List ℕ) (f : DocStoreFooter) (e : StoreError) → FindsIndex file f (Err e) → (number_of e ≤ 4) ⊎ (e ≡ BadIndex) ⊎ (e ≡ Memory)
index_cause file f e finds = (elim (nat_lt (length file - 28) f.offset) as (λ y. nat_lt (length file - 28) f.offset ≡ y → (number_of e ≤ 4) ⊎ (e ≡ BadIndex) ⊎ (e ≡ Memory)) [
  | true ↦ λ t. let is = finds.past (ltb-true _ _ t) in let same : e ≡ BadOffset = cc in inl (omega (arith, ap number_of same))
  | false ↦ λ t. elim (finds.within (ltb-false _ _ t)) [ inl bad ↦ inr (inl bad.0) | inr memory ↦ inr (inr memory) ]
]) refl

-- what refuses a file
found_cause : (file : List ℕ) (e : StoreError) → Finds file (Err e) → (number_of e ≤ 4) ⊎ (number_of e ≡ 16) ⊎ (e ≡ BadIndex) ⊎ (e ≡ Memory)
found_cause file e finds = go finds.footer finds.reads finds.goes_on
  where
    go : (said : Result DocStoreFooter StoreError) → FindsFooter file said → FindsFrom file said (Err e) → (number_of e ≤ 4) ⊎ (number_of e ≡ 16) ⊎ (e ≡ BadIndex) ⊎ (e ≡ Memory)
    go (Err d) reads on =
        let same : e ≡ d = cc in
        elim (footer_number file d reads) [ inl few ↦ inl (omega (arith, few, ap number_of same)) | inr is ↦ inr (inl (ap number_of same ∙ is)) ]
    go (Ok f) reads on = elim (index_cause file f e on) [ inl few ↦ inl few | inr more ↦ inr (inr more) ]

-- it is the index where the number is 5
pub five_is : (file : List ℕ) (e : StoreError) → Finds file (Err e) → number_of e ≡ 5 → e ≡ BadIndex
five_is file e finds is = elim (found_cause file e finds) [
  | inl few ↦ absurd (omega (arith, few, is))
  | inr more ↦ elim more [
    | inl last ↦ absurd (omega (arith, last, is))
    | inr index ↦ elim index [ inl bad ↦ bad | inr memory ↦ absurd (omega (arith, is, ap number_of memory)) ]
  ]
]

-- a number between those of the index and of the period is only that of lack of memory
pub other_number : (file : List ℕ) (e : StoreError) (n : ℕ) → Finds file (Err e) → 5 < n → n < 16 → (n ≡ 10 → ⊥) → number_of e ≡ n → ⊥
other_number file e n finds from to kept is = elim (found_cause file e finds) [
  | inl few ↦ omega (arith, few, is)
  | inr more ↦ elim more [
    | inl last ↦ omega (arith, last, is)
    | inr index ↦ elim index [ inl bad ↦ omega (arith, is, ap number_of bad) | inr memory ↦ kept (sym is ∙ ap number_of memory) ]
  ]
]

-- one that is refused has no index
pub no_index_in : (file_len : ℕ) (tail : List ℕ) (number : ℕ) → RefusesHead file_len tail number → HasIndexIn file_len tail → ⊥
no_index_in file_len tail number (inl r) h = footer_or_refusal tail h.footer r.error h.reads r.finds
no_index_in file_len tail number (inr p) h = omega (arith, p.1.past, h.within, one_footer tail p.1.footer h.footer p.1.finds h.reads)

-- the footer of a whole file is refused first
pub head_first : (file : List ℕ) (number : ℕ) (d : StoreError) → RefusesHead (length file) file number → Finds file (Err d) → (d ≡ Memory → ⊥) → number_of d ≡ number
head_first file number d (inl r) finds kept = elim (refused_once file r.error d (finds_footer file r.error r.finds) finds) [
  | inl same ↦ ap number_of same ∙ sym r.is
  | inr memory ↦ elim memory [ inl m ↦ absurd (footer_takes_none file (subst (λ (e : StoreError). FindsFooter file (Err e)) m r.finds)) | inr m ↦ absurd (kept m) ]
]
head_first file number d (inr p) finds kept = elim (refused_once file BadOffset d (finds_past file p.1.footer p.1.finds (omega (arith, p.1.past, footer_fits file p.1.footer p.1.finds))) finds) [
  | inl same ↦ ap number_of same ∙ sym p.0
  | inr memory ↦ elim memory [ inl m ↦ absurd cc | inr m ↦ absurd (kept m) ]
]

-- ---- documents

-- a document that has a place is not refused
pub place_is_given : (file : List ℕ) (id : ℕ) (p : Place) (e : StoreError) → IsPlaceIn file id p → (s : IsSomeStore file) → document_in file s id ≡ Err e → ⊥
place_is_given file id p e is s refused = err_not_ok e _ (sym refused ∙ is.document s)

pub same_error : (e d : StoreError) → ◌≡◌ {A = Result (List ℕ) StoreError} (Err e) (Err d) → e ≡ d
same_error e d h = cc

-- a document that is in a block is one of the store
pub is_in_store : (file : List ℕ) (s : IsSomeStore file) (id : ℕ) (x : Slot) → document_in file s id ≡ exact_result id (Some x) → document_in file s id ≡ Err (InvalidArgument id) → ⊥
is_in_store file s id (doc bytes) is refused = let no : ◌≡◌ {A = Result (List ℕ) StoreError} (Ok bytes) (Err (InvalidArgument id)) = sym is ∙ refused in cc
is_in_store file s id damaged is refused =
    let no : ◌≡◌ {A = Result (List ℕ) StoreError} (Err (DamagedDocument id)) (Err (InvalidArgument id)) = sym is ∙ refused in
    let same : DamagedDocument id ≡ InvalidArgument id = same_error _ _ no in cc

-- ---- numbers of documents' refusals

-- Of a document that the store refuses so, in bytes that are a store's file, the number says how.
module _ (file : List ℕ) (id result : ℕ) (e : StoreError) (is : result ≡ number_of e) (one : RefusesOne id e) (s : IsSomeStore file) (refused : document_in file s id ≡ Err e) where
  back : (d : StoreError) → document_in file s id ≡ Err d → result ≡ number_of d
  back d other = is ∙ ap number_of (same_error e d (sym refused ∙ other))

  -- 6 comes exactly where there is no document
  pub six_is : (result ≡ 6) ↔ (document_in file s id ≡ Err (InvalidArgument id))
  six_is = (
    λ six. elim one [
      | inl none ↦ refused ∙ ap (λ (x : StoreError). Err x) none
      | inr more ↦ elim more [
        | inl bad ↦ absurd (omega (arith, six, is, ap number_of bad))
        | inr index ↦ absurd (omega (arith, six, is, ap number_of index))
      ]
    ],
    back (InvalidArgument id),
  )

  -- 7 comes exactly where it is damaged
  pub seven_is : (result ≡ 7) ↔ (document_in file s id ≡ Err (DamagedDocument id))
  seven_is = (
    λ seven. elim one [
      | inl none ↦ absurd (omega (arith, seven, is, ap number_of none))
      | inr more ↦ elim more [
        | inl bad ↦ refused ∙ ap (λ (x : StoreError). Err x) bad
        | inr index ↦ absurd (omega (arith, seven, is, ap number_of index))
      ]
    ],
    back (DamagedDocument id),
  )

pub by_six : (file : List ℕ) (id result : ℕ) (e : StoreError) → result ≡ number_of e → RefusesGet file id e → (s : IsSomeStore file) → (result ≡ 6) ↔ (document_in file s id ≡ Err (InvalidArgument id))
by_six file id result e is h s = six_is file id result e is h.0 s (h.1 s)

pub by_seven : (file : List ℕ) (id result : ℕ) (e : StoreError) → result ≡ number_of e → RefusesGet file id e → (s : IsSomeStore file)
    → (result ≡ 7) ↔ (document_in file s id ≡ Err (DamagedDocument id))
by_seven file id result e is h s = seven_is file id result e is h.0 s (h.1 s)
