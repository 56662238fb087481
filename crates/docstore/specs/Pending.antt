-- Documents that wait, in their bytes and the places where they begin.
use Rattle.std.specs.Prelude.{◌≡◌, ◌⊎◌, ◌↔◌, ℕ, ◌+◌, ◌*◌, ◌<◌, ◌≤◌, ◌^◌, List, [], ◌∷◌, length, slice_range, Option}
use Rattle.std.specs.Prelude.{Some, None, Result, IfOk, IfErr, IsErrOf}
use Rattle.std.specs.List.{concat}
use Rattle.store_base.specs.declared.fault.DocFault.{DocFault}
use Rattle.store_base.specs.declared.fault.DocFault.TheVariants as fault
use Rattle.store_base.specs.declared.error.StoreError.{StoreError}
use Rattle.store_base.specs.declared.error.StoreError.TheVariants.{Memory, Unserializable, BlockTooLarge}
use Rattle.store_format.specs.Block.{starts_from}

-- where a document ends: where the next one begins, or at the end
abbrev pub first_or : List ℕ → ℕ → ℕ
first_or [] end = end
first_or (start ∷ starts) end = start

-- the documents that begin at these places of the bytes
unfoldable pub documents_at : List ℕ → List ℕ → List (List ℕ)
documents_at [] bytes = []
documents_at (start ∷ starts) bytes = slice_range bytes start (first_or starts (length bytes))
    ∷ documents_at starts bytes

-- The places and the bytes are those of the documents, of which a block can be made. A block of this limit has its
-- place in 32 bits and in the room, and that of the documents is no longer.
pub record IsPending (starts bytes : List ℕ) (limit capacity : ℕ) : Type 0 where
  pub places : starts ≡ starts_from 0 (documents_at starts bytes)
  pub joined : bytes ≡ concat (documents_at starts bytes)
  pub fits : length bytes + 4 * length starts + 4 < 2 ^ 32
  pub small : limit < 2 ^ 32
  pub room : limit ≤ capacity
  pub within : 0 < length starts → length bytes + 4 * length starts + 4 ≤ limit

-- The places are those of some documents, and the bytes those of their block, for which there was room.
pub record IsFinished (starts bytes : List ℕ) (limit capacity : ℕ) : Type 0 where
  pub some_docs : 0 < length starts
  pub few_docs : length starts < 2 ^ 32
  pub some_bytes : 0 < length bytes
  pub few_bytes : length bytes < 2 ^ 32
  pub small : limit < 2 ^ 32
  pub room : limit ≤ capacity

-- A block so long is within the limit, which is within the room and below 2^32.
pub record HasRoom (long capacity limit : ℕ) : Type 0 where
  pub within : long ≤ limit
  pub small : limit < 2 ^ 32
  pub room : limit ≤ capacity

-- There is room for a block so long, or it is refused: exactly where its length has no place in 32 bits, memory
-- aside.
pub record FindsRoom (long capacity : ℕ) (result : Result ℕ StoreError) : Type 0 where
  pub ok : IfOk result (HasRoom long capacity)
  pub too_large : IsErrOf result BlockTooLarge ↔ (2 ^ 32 ≤ long)
  pub causes : IfErr result (λ e. (e ≡ BlockTooLarge) ⊎ (e ≡ Memory))

-- the refusal of a document that wrote no bytes
abbrev pub refusal_to_write : DocFault → StoreError
refusal_to_write fault.Refused = Unserializable
refusal_to_write fault.Memory = Memory

-- Why a document with these bytes, or with none, was refused; its bytes may be too large.
abbrev pub IsDocumentRefusal : Option (List ℕ) → (List ℕ → Type 0) → StoreError → Type 0
IsDocumentRefusal None IsLarge e = (e ≡ Memory) ⊎ (e ≡ Unserializable)
IsDocumentRefusal (Some doc) IsLarge e = (e ≡ Memory) ⊎ ((e ≡ BlockTooLarge) × IsLarge doc)
