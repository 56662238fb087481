-- What a store gives of its documents.
use Rattle.std.specs.Prelude.{◌≡◌, ◌⊎◌, ℕ, List, slice_get, Option, Some, Result, Ok, Err}
use Rattle.store_base.specs.declared.error.StoreError.{StoreError}
use Rattle.store_base.specs.declared.error.StoreError.TheVariants.{Read, Memory}
use Rattle.store_format.specs.Block.{Slot, doc}
use Rattle.store_reader.specs.Documents.{ReadsTruly}

-- this document; or a read failed, or memory ran out
abbrev pub IsOrFails : {D : Type 0} → D → Result D StoreError → Type 0
IsOrFails document (Ok found) = found ≡ document
IsOrFails document (Err e) = (e ≡ Read) ⊎ (e ≡ Memory)

-- Where the slot of an id has the bytes of a document, its stored form is got.
abbrev pub StoredDocumentsAreGot : {D : Type 0} → (D → ℕ → Option (List ℕ)) → (List ℕ → Option D) → (D → D) → Type 0
StoredDocumentsAreGot {D} doc_bytes reading stored = (document : D) (schema : ℕ) (bytes : List ℕ) (id : ℕ)
    (all : List Slot) (result : Result D StoreError) →
    doc_bytes document schema ≡ Some bytes → slice_get all id ≡ Some (doc bytes)
    → ReadsTruly reading id (slice_get all id) result → IsOrFails (stored document) result
