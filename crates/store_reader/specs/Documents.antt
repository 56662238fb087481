-- Documents as values: what is read from the bytes of a slot.
use Rattle.std.specs.Prelude.{◌≡◌, ◌⊎◌, ℕ, List, Option, Some, None, Result, Ok, Err}
use Rattle.store_base.specs.declared.error.StoreError.{StoreError}
use Rattle.store_base.specs.declared.error.StoreError.TheVariants.{InvalidArgument, DamagedDocument, BadDocument, Read}
use Rattle.store_base.specs.declared.error.StoreError.TheVariants.{Memory}
use Rattle.store_format.specs.declared.version.DocStoreVersion.{DocStoreVersion}
use Rattle.store_format.specs.declared.version.DocStoreVersion.TheVariants.{V1, V2, V3}
use Rattle.store_reader.specs.GetAnswer.{IsAnswered}
use Rattle.store_format.specs.Block.{Slot, doc, damaged}
use Rattle.store_reader.specs.Reading.{Reading}

-- how the documents of a store are spelled: version 3 has another index alone
abbrev pub document_version : DocStoreVersion → ℕ
document_version V1 = 1
document_version V2 = 2
document_version V3 = 2

-- the bytes of the slot, as they are read; or there are none
pub record IsSpelled {D : Type 0} (reading : List ℕ → Option D) (slot : Option Slot) (read : Option D) : Type 0 where
  pub bytes : List ℕ
  pub stored : slot ≡ Some (doc bytes)
  pub reads : reading bytes ≡ read

-- what is read from the bytes of a document, if they came
abbrev pub ReadsFrom : {D : Type 0} → (List ℕ → Option D) → Result (List ℕ) StoreError → Result D StoreError → Type 0
ReadsFrom reading (Ok bytes) (Ok document) = reading bytes ≡ Some document
ReadsFrom reading (Ok bytes) (Err e) = ((e ≡ BadDocument) × (reading bytes ≡ None)) ⊎ (e ≡ Memory)
ReadsFrom reading (Err e) result = result ≡ Err e

-- The document's bytes are got, and these decide.
pub record IsGot {D : Type 0} (reading : List ℕ → Option D) (old : Reading) (id : ℕ) (result : Result D StoreError)
    (new : Reading) : Type 0 where
  pub bytes : Result (List ℕ) StoreError
  pub answered : IsAnswered old id bytes new
  pub reads : ReadsFrom reading bytes result

-- What the bytes of the slot are read as; or the refusal where there is none, it is damaged, or its bytes are not read;
-- or a read
-- failed or memory ran out.
abbrev pub ReadsTruly : {D : Type 0} → (List ℕ → Option D) → ℕ → Option Slot → Result D StoreError → Type 0
ReadsTruly reading id s (Ok document) = IsSpelled reading s (Some document)
ReadsTruly reading id s (Err e) =
    ((e ≡ InvalidArgument id) × (s ≡ None)) ⊎ ((e ≡ DamagedDocument id) × (s ≡ Some damaged))
    ⊎ ((e ≡ BadDocument) × IsSpelled reading s None) ⊎ (e ≡ Read) ⊎ (e ≡ Memory)
