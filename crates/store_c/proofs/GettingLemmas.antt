-- Reading without opening: places in the bytes of a file, and refusals by their numbers.
use Rattle.std.proofs.Common.{◌≡◌, ◌⊎◌, ℕ, ◌+◌, ◌-◌, ◌≤◌, inl, inr, List, length, Option, Some, None, sym, ap, ◌∙◌, subst, arith}
use Rattle.std.specs.Prelude.{slice_get, slice_range, Result, Ok, Err}
use Rattle.store_base.specs.Outcome.{number_of}
use Rattle.store_base.specs.declared.error.StoreError.{StoreError}
use Rattle.store_base.specs.declared.error.StoreError.TheVariants.{BadIndex, InvalidArgument}
use Rattle.layered_index.specs.Checkpoint.{first_past}
use Rattle.store_format.specs.Block.{Slot, doc, damaged}
use Rattle.store_format.specs.Slots.{slots}
use Rattle.store_format.specs.StoreFile.{checkpoints_of}
use Rattle.store_reader.specs.CallAnswers.{exact_result}
use Rattle.store_reader.specs.Opening.{IsSomeStore}
use Rattle.store_reader.specs.StoreSlices.{document_in, count_of_store, RefusesOne}
use Rattle.store_reader.proofs.StoreSliceLemmas.{err_not_ok, ok_is, refused_is, document_past}
use Rattle.store_c.specs.declared.place.Place.{Place}
use Rattle.store_c.specs.Getting.{IsPlaceIn, RefusesGet, RefusesUnopened}

-- ---- places

-- a range of a block is a place
pub is_place : (file : List ℕ) (id start end last : ℕ) → start ≤ end → end ≤ last → last ≤ length file
    → ((s : IsSomeStore file) → ◌≡◌ {A = Result (List ℕ) StoreError} (Ok (slice_range file start end)) (document_in file s id))
    → IsPlaceIn file id (record { start = start; len = end - start })
is_place file id start end last order inside within h =
    let whole : start + (end - start) ≡ end = omega arith in
    record {
      within = omega arith;
      document = λ s. sym (h s) ∙ ap (λ (n : ℕ). Ok (slice_range file start n)) (sym whole);
    }

-- a seek that finds no block refuses the document
pub block_refused : (file : List ℕ) (id : ℕ) (e : StoreError) → RefusesOne id e → ((s : IsSomeStore file) → (e ≡ InvalidArgument id) × (first_past (checkpoints_of s.blocks) id ≡ None))
    → RefusesGet file id e
block_refused file id e one h = (one, λ s. sym (refused_is file s id e (h s)))

-- a run begins at no document
pub begins_nowhere : (file : List ℕ) (id : ℕ) (e : StoreError) → (e ≡ InvalidArgument id) ⊎ (e ≡ BadIndex)
    → ((s : IsSomeStore file) → (e ≡ InvalidArgument id) × (first_past (checkpoints_of s.blocks) id ≡ None)) → RefusesGet file id e
begins_nowhere file id e one h = block_refused file id e (elim one [ inl none ↦ inl none | inr index ↦ inr (inr index) ]) h

-- ---- refusals

-- there is no document after the last
pub none_after : (file : List ℕ) (id end : ℕ) → end ≡ id → ((s : IsSomeStore file) → end ≡ count_of_store file s) → RefusesGet file id (InvalidArgument end)
none_after file id end e h = (inl (ap InvalidArgument e), λ s. document_past file s id (omega (arith, e, h s)) ∙ ap (λ (n : ℕ). Err (InvalidArgument n)) (sym e))

-- the index was found damaged
pub index_refused : (file : List ℕ) (id : ℕ) (e : StoreError) → e ≡ BadIndex → (IsSomeStore file → ⊥) → RefusesGet file id e
index_refused file id e bad none = (inr (inr bad), λ s. absurd (none s))

-- a store's document is never refused by its index
pub no_index : (id : ℕ) (o : Option Slot) → exact_result id o ≡ Err BadIndex → ⊥
no_index id None h = cc
no_index id (Some damaged) h = cc
no_index id (Some (doc b)) h = cc

-- one that is refused by no number but 5 is refused by it
pub index_is : (id : ℕ) (e : StoreError) → RefusesOne id e → (number_of e ≡ 6 → ⊥) → (number_of e ≡ 7 → ⊥) → e ≡ BadIndex
index_is id e one six seven = elim one [
  | inl none ↦ absurd (six (ap number_of none))
  | inr more ↦ elim more [ inl bad ↦ absurd (seven (ap number_of bad)) | inr index ↦ index ]
]

pub by_other : (file : List ℕ) (id : ℕ) (e : StoreError) → RefusesGet file id e → (number_of e ≡ 6 → ⊥) → (number_of e ≡ 7 → ⊥) → RefusesUnopened file (number_of e)
by_other file id e h six seven =
    let index = index_is id e h.0 six seven in
    inr (ap number_of index, λ s. no_index id (slice_get (slots s.blocks) id) (h.1 s ∙ ap (λ (x : StoreError). Err x) index))

-- ---- the bytes by another name

pub moved : (a file : List ℕ) (id : ℕ) (e : StoreError) → a ≡ file → RefusesGet a id e → RefusesGet file id e
moved a file id e same h = subst (λ (b : List ℕ). RefusesGet b id e) same h

pub moved_place : (a file : List ℕ) (id : ℕ) (p : Place) → a ≡ file → IsPlaceIn a id p → IsPlaceIn file id p
moved_place a file id p same h = subst (λ (b : List ℕ). IsPlaceIn b id p) same h

-- how many documents there are
pub counted : (a file : List ℕ) (docs : ℕ) → a ≡ file → ((s : IsSomeStore a) → ◌≡◌ {A = Result ℕ StoreError} (Ok docs) (Ok (count_of_store a s)))
    → (s : IsSomeStore file) → docs ≡ count_of_store file s
counted a file docs same h = subst (λ (b : List ℕ). (s : IsSomeStore b) → docs ≡ count_of_store b s) same (λ s. ok_is docs (count_of_store a s) (h s))

-- they can't be counted
pub uncounted : (a file : List ℕ) (e : StoreError) → a ≡ file → e ≡ BadIndex → ((s : IsSomeStore a) → ◌≡◌ {A = Result ℕ StoreError} (Err e) (Ok (count_of_store a s)))
    → RefusesUnopened file (number_of e)
uncounted a file e same index h =
    inr (ap number_of index, subst (λ (b : List ℕ). IsSomeStore b → ⊥) same (λ s. err_not_ok e (count_of_store a s) (h s)))
