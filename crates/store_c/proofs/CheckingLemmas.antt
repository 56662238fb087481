-- What the full check of a file finds is the one thing there is to find.
use Rattle.std.proofs.Common.{◌≡◌, ◌↔◌, ℕ, ◌+◌, ◌-◌, ◌≤◌, true, false, nat_lt, inl, inr, List, length, Option, Some, None, IfSome, refl, sym, ap, ◌∙◌, subst, arith}
use Rattle.std.specs.Prelude.{slice_get, slice_range, IsNone, IsSome, MatchOption, Result, Ok, Err}
use Rattle.std.specs.Borrow.{Bor}
use Rattle.std.specs.Option.{is_some}
use Rattle.std.proofs.lemmas.Option.{slice_get_past}
use Rattle.std.proofs.lemmas.Bool.{ltb-true, ltb-false}
use Rattle.store_base.specs.Outcome.{number_of}
use Rattle.store_base.specs.declared.error.StoreError.{StoreError}
use Rattle.store_base.specs.declared.error.StoreError.TheVariants.{BadIndex, BadOffset, InvalidArgument, DamagedDocument}
use Rattle.layered_index.specs.declared.index_fault.IndexFault.{IndexFault}
use Rattle.layered_index.specs.Faults.{IsFirstFault}
use Rattle.layered_index.specs.IndexReading.{HasIndex}
use Rattle.store_format.specs.Block.{Slot, doc, damaged}
use Rattle.store_format.specs.Extraction.{Says}
use Rattle.store_format.specs.declared.footer.DocStoreFooter.{DocStoreFooter}
use Rattle.store_format.specs.Slots.{slots}
use Rattle.store_format.specs.StoreFile.{StoreBlock}
use Rattle.store_reader.specs.CallAnswers.{exact_result}
use Rattle.store_reader.specs.IndexChecks.{IsCheckOf}
use Rattle.store_reader.specs.Opening.{IsSomeStore}
use Rattle.store_reader.specs.StoreSlices.{document_in, count_of_store, IsAmid, GivesStored}
use Rattle.store_reader.specs.Finding.{FindsFooter, FindsFrom, Finds, given}
use Rattle.store_reader.specs.declared.slice_documents.SliceDocuments.{SliceDocuments}
use Rattle.store_reader.proofs.StoreSliceLemmas.{err_not_ok}
use Rattle.store_c.specs.declared.fault.Fault.{Fault}
use Rattle.store_c.specs.Checking.{AreWholeTo, IsSoundFile, IsFirstDamaged}
use Rattle.store_c.proofs.FirstRefusalLemmas.{footer_fits, footer_number, same_error, same_store}

-- a document of a store is damaged
abbrev pub IsDamaged : List StoreBlock → ℕ → Type 0
IsDamaged blocks id = slice_get (slots blocks) id ≡ Some damaged

-- it is so in one store of a file as in another
same_damage : (file : List ℕ) (s t : IsSomeStore file) (id : ℕ) → IsDamaged s.blocks id → IsDamaged t.blocks id
same_damage file s t id is = ap (λ (bs : List StoreBlock). slice_get (slots bs) id) (sym (same_store file s t).1) ∙ is

module _ (file : List ℕ) (s : IsSomeStore file) where
  -- where no document is damaged there is no first one
  pub none_damaged : ((id : ℕ) → IsDamaged s.blocks id → ⊥) → (at : Fault) → IsFirstDamaged file at → ⊥
  none_damaged none at first = none at.doc_id (same_damage file first.store s at.doc_id first.is)

  -- a file with a damaged document is not sound
  pub not_sound : (id : ℕ) → IsDamaged s.blocks id → IsSoundFile file → ⊥
  not_sound id is sound = sound.whole id (same_damage file s sound.store id is)

  -- there is one first
  pub same_fault : (id : ℕ) → IsDamaged s.blocks id → AreWholeTo s.blocks id → (at : Fault) → IsFirstDamaged file at → record { byte = 0; layer = 0; doc_id = id } ≡ at
  same_fault id is whole at first =
      let there = same_damage file s first.store id is in
      let here = same_damage file first.store s at.doc_id first.is in
      let least : id ≤ at.doc_id = (elim (nat_lt at.doc_id id) as (λ y. nat_lt at.doc_id id ≡ y → id ≤ at.doc_id) [
        | true ↦ λ t. absurd (whole at.doc_id (ltb-true _ _ t) here)
        | false ↦ λ t. ltb-false _ _ t
      ]) refl in
      let most : at.doc_id ≤ id = (elim (nat_lt id at.doc_id) as (λ y. nat_lt id at.doc_id ≡ y → at.doc_id ≤ id) [
        | true ↦ λ t. absurd (first.before id (ltb-true _ _ t) there)
        | false ↦ λ t. ltb-false _ _ t
      ]) refl in
      let doc : id ≡ at.doc_id = omega (arith, least, most) in
      λ i. record { byte = sym first.no_byte i; layer = sym first.no_layer i; doc_id = doc i }

-- ---- the index

-- The footer of these bytes says where the index lies.
pub record HasIndexAt (file : List ℕ) : Type 0 where
  pub footer : DocStoreFooter
  pub reads : FindsFooter file (Ok footer)
  pub within : footer.offset + 28 ≤ length file

-- so it does where the index is refused
pub index_at : (file : List ℕ) → Finds file (Err BadIndex) → HasIndexAt file
index_at file finds = go finds.footer finds.reads finds.goes_on
  where
    go : (said : Result DocStoreFooter StoreError) → FindsFooter file said → FindsFrom file said (Err BadIndex) → HasIndexAt file
    go (Err e) reads on =
        let same : BadIndex ≡ e = cc in
        elim (footer_number file e reads) [ inl few ↦ absurd (omega (arith, few, ap number_of same)) | inr is ↦ absurd (omega (arith, is, ap number_of same)) ]
    go (Ok f) reads on = record {
      footer = f;
      reads = reads;
      within = (elim (nat_lt (length file - 28) f.offset) as (λ y. nat_lt (length file - 28) f.offset ≡ y → f.offset + 28 ≤ length file) [
        | true ↦ λ t. let no = on.past (ltb-true _ _ t) in let same : BadIndex ≡ BadOffset = cc in absurd cc
        | false ↦ λ t. omega (arith, ltb-false _ _ t, footer_fits file f reads)
      ]) refl;
    }

-- what the last 28 bytes say is the footer
pub says_footer : (file : List ℕ) (said : Result DocStoreFooter StoreError) → 28 ≤ length file → Says (slice_range file (length file - 28) (length file)) said → FindsFooter file said
says_footer file said long says = record { short = λ few. absurd (omega arith); long = λ _. says }

-- the first fault of an index, or it has none
pub check_of : (period : ℕ) (part : List ℕ) (fault : Option IndexFault) → (IsNone fault → HasIndex period part) → (IsSome fault → HasIndex period part → ⊥) → IfSome fault (IsFirstFault period part)
    → IsCheckOf period part fault
check_of period part None sound broken first = sound refl
check_of period part (Some fault) sound broken first = (broken refl, first)

-- ---- the documents

-- where an iteration stands in a store
abbrev pub StandsIn : (file : List ℕ) → IsSomeStore file → SliceDocuments → Type 0
StandsIn file s d = IsAmid file s d.next d.block.first d.block.end d.block.bytes.now d.blocks

-- An iteration over these bytes stands in their store, and the documents before it are whole.
abbrev pub HasGoneTo : List ℕ → SliceDocuments → Type 0
HasGoneTo file d = record {
  bytes : d.blocks.bytes ≡ file;
  amid : (s : IsSomeStore file) → StandsIn file s d;
  whole : (s : IsSomeStore file) → AreWholeTo s.blocks d.next;
}

-- what it gives next, of the same bytes by another name
pub moves : (file : List ℕ) (d e : SliceDocuments) (item : Option (Result (Bor (List ℕ)) StoreError)) → d.blocks.bytes ≡ file
    → ((z : IsSomeStore d.blocks.bytes) → StandsIn d.blocks.bytes z d → GivesStored d.blocks.bytes z d.next item e.next × StandsIn d.blocks.bytes z e)
    → (s : IsSomeStore file) → StandsIn file s d → GivesStored file s d.next item e.next × StandsIn file s e
moves file d e item same h = subst (λ (b : List ℕ). (z : IsSomeStore b) → StandsIn b z d → GivesStored b z d.next item e.next × StandsIn b z e) same h

-- a document that is refused as damaged is damaged
damaged_is : (id next : ℕ) (o : Option Slot) → exact_result next o ≡ Err (DamagedDocument id) → (next ≡ id) × (o ≡ Some damaged)
damaged_is id next None is = let same : InvalidArgument next ≡ DamagedDocument id = same_error _ _ is in absurd cc
damaged_is id next (Some damaged) is = let same : DamagedDocument next ≡ DamagedDocument id = same_error _ _ is in (cc, refl)
damaged_is id next (Some (doc bytes)) is = absurd (err_not_ok _ _ (sym is))

module _ (file : List ℕ) (s : IsSomeStore file) (next : ℕ) (whole : AreWholeTo s.blocks next) where
  -- one more is whole
  pub one_more_whole : (IsDamaged s.blocks next → ⊥) → AreWholeTo s.blocks (next + 1)
  one_more_whole here id below is = (elim (nat_lt id next) as (λ y. nat_lt id next ≡ y → ⊥) [
    | true ↦ λ t. whole id (ltb-true _ _ t) is
    | false ↦ λ t. let same : id ≡ next = omega (arith, ltb-false _ _ t) in here (subst (IsDamaged s.blocks) same is)
  ]) refl

  -- all are
  pub all_whole : next ≡ count_of_store file s → (id : ℕ) → IsDamaged s.blocks id → ⊥
  all_whole all id is = (elim (nat_lt id next) as (λ y. nat_lt id next ≡ y → ⊥) [
    | true ↦ λ t. whole id (ltb-true _ _ t) is
    | false ↦ λ t. none_damage (sym (slice_get_past (slots s.blocks) id (omega (arith, all, ltb-false _ _ t))) ∙ is)
  ]) refl
    where
      none_damage : ◌≡◌ {A = Option Slot} None (Some damaged) → ⊥
      none_damage h = cc

  -- what tells of the document after them whether it is damaged
  module _ (item : Result (Bor (List ℕ)) StoreError) (told : given item ≡ document_in file s next) (found : Option ℕ)
      (tells : (id : ℕ) → (given item ≡ Err (DamagedDocument id)) ↔ (found ≡ Some id)) where
    pub first_found : is_some found ≡ true → MatchOption found ((id : ℕ) → IsDamaged s.blocks id → ⊥) (λ id. IsDamaged s.blocks id × AreWholeTo s.blocks id)
    first_found some = go found refl some
      where
        go : (o : Option ℕ) → found ≡ o → is_some o ≡ true → MatchOption o ((id : ℕ) → IsDamaged s.blocks id → ⊥) (λ id. IsDamaged s.blocks id × AreWholeTo s.blocks id)
        go None is t = absurd cc
        go (Some id) is t =
            let here = damaged_is id next (slice_get (slots s.blocks) next) (sym told ∙ (tells id).1 is) in
            (subst (IsDamaged s.blocks) here.0 here.1, subst (AreWholeTo s.blocks) here.0 whole)

    pub none_found : is_some found ≡ false → IsDamaged s.blocks next → ⊥
    none_found none damage = let some : found ≡ Some next = (tells next).0 (told ∙ ap (exact_result next) damage) in let no : true ≡ false = sym (ap is_some some) ∙ none in cc
