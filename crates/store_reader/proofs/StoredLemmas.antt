-- Documents that were stored are got.
use Rattle.std.proofs.Common.{◌≡◌, ◌⊎◌, ℕ, inl, inr, List, slice_get, Option, Some, None, Ok, Err, sym, ◌∙◌, ap}
use Rattle.store_base.specs.declared.error.StoreError.TheVariants.{Read, Memory}
use Rattle.store_format.specs.Block.{doc, damaged}
use Rattle.store_reader.specs.Documents.{IsSpelled}
use Rattle.store_reader.specs.Laws.{StoredDocumentsAreGot}

pub stored_documents_are_got : {D : Type 0} (doc_bytes : D → ℕ → Option (List ℕ)) (reading : List ℕ → Option D) (stored : D → D)
    → ((d : D) (schema : ℕ) (bytes : List ℕ) → doc_bytes d schema ≡ Some bytes → reading bytes ≡ Some (stored d)) → StoredDocumentsAreGot doc_bytes reading stored
stored_documents_are_got doc_bytes reading stored read_back document schema bytes id all (Ok found) written has got =
    let same : Some (doc bytes) ≡ Some (doc got.bytes) = sym has ∙ got.stored in
    let same_bytes : bytes ≡ got.bytes = cc in
    let read : Some (stored document) ≡ Some found = sym (read_back document schema bytes written) ∙ ap reading same_bytes ∙ got.reads in
    cc
stored_documents_are_got doc_bytes reading stored read_back document schema bytes id all (Err e) written has got = elim got [
  | inl h ↦ let none : Some (doc bytes) ≡ None = sym has ∙ h.1 in absurd cc
  | inr others ↦ elim others [
    | inl h ↦ let is_damaged : Some (doc bytes) ≡ Some damaged = sym has ∙ h.1 in absurd cc
    | inr more ↦ elim more [
      | inl h ↦ unread h.1
      | inr last ↦ last
    ]
  ]
]
  where
    unread : IsSpelled reading (slice_get all id) None → (e ≡ Read) ⊎ (e ≡ Memory)
    unread h =
        let same : Some (doc bytes) ≡ Some (doc h.bytes) = sym has ∙ h.stored in
        let same_bytes : bytes ≡ h.bytes = cc in
        let read : Some (stored document) ≡ None = sym (read_back document schema bytes written) ∙ ap reading same_bytes ∙ h.reads in
        absurd cc
