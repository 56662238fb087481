-- How the documents of a store are copied.
use Rattle.std.specs.Prelude.{◌≡◌, ◌⊎◌, ℕ, List, [], ◌∷◌, ◌++◌, None, Result, Ok, Err}
use Rattle.store_base.specs.declared.error.StoreError.{StoreError}
use Rattle.store_format.specs.Block.{doc}
use Rattle.docstore.specs.Laws.{taken}
use Rattle.docstore.specs.Writer.{Writing, with_document, with_failures}
use Rattle.store_merge.specs.Refusals.{RefusesBytes}

-- An item was a document, and it was taken.
pub record IsItemStored (item : Result (List ℕ) StoreError) (old new : Writing) : Type 0 where
  pub bytes : List ℕ
  pub is : item ≡ Ok bytes
  pub works : old.output.failure ≡ None
  pub after : new ≡ with_failures new.output.failures (with_document old bytes)
  pub grown : taken new ≡ taken old ++ doc bytes ∷ []

-- An item was a document, and the writer refused it.
pub record IsNotTaken (item : Result (List ℕ) StoreError) (old new : Writing) (e : StoreError) : Type 0 where
  pub bytes : List ℕ
  pub is : item ≡ Ok bytes
  pub refused : RefusesBytes bytes old new e

-- An item was no document, or it was refused.
abbrev pub IsRefused : Result (List ℕ) StoreError → Writing → Writing → StoreError → Type 0
IsRefused item old new e = ((item ≡ Err e) × (new ≡ old)) ⊎ IsNotTaken item old new e
