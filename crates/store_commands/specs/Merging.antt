-- Which documents of a store are merged.
use Rattle.std.specs.Prelude.{◌≡◌, ◌≢◌, ◌⊎◌, ℕ, ◌*◌, ◌<◌, ◌≤◌, nat_le, Bool, true, not, ◌&&◌, List, [], ◌∷◌, length, Option, Some, None}
use Rattle.std.specs.List.{list_all, range_with_len}
use Rattle.std.specs.Borrow.{Bor}
use Rattle.store_base.specs.AliveBitSet.{is_alive_at}
use Rattle.store_base.specs.Counts.{raised}
use Rattle.store_base.specs.declared.error.Cause.TheVariants.{Write}
use Rattle.store_base.specs.declared.error.StoreError.{StoreError}
use Rattle.store_base.specs.declared.error.StoreError.TheVariants.{OldVersion, Failed}
use Rattle.store_commands.specs.declared.merging.MergeFailure.{MergeFailure}
use Rattle.store_commands.specs.declared.merging.MergeFailure.TheVariants.{Request, Refused}
use Rattle.store_commands.specs.declared.request_error.RequestError.{RequestError}
use Rattle.store_commands.specs.declared.request_error.RequestError.TheVariants.{TooManyDocuments}
use Rattle.layered_index.specs.Layers.{index_part}
use Rattle.store_format.specs.Block.{Slot}
use Rattle.store_format.specs.Slots.{slots}
use Rattle.store_reader.specs.Iteration.{alive}
use Rattle.store_reader.specs.Reading.{Reading, IsSameStore, num_docs, store_of}
use Rattle.store_reader.specs.Walking.{IsSteadyBetween}
use Rattle.store_format.specs.declared.version.DocStoreVersion.TheVariants.{V1}
use Rattle.docstore.specs.StackingInParts.{BeginsStack}
use Rattle.docstore.specs.Writer.{Writing}
use Rattle.store_merge.specs.declared.input.MergeInput.{MergeInput}
use Rattle.store_merge.specs.Inputs.{IsAskedOnce}
use Rattle.store_merge.specs.Merge.{IsEnded, IsFailed}
use Rattle.store_merge.specs.Stacking.{IsReadInParts}
use Rattle.store_commands.specs.LeftOut.{words_name, RefusesWords}

-- whether none of the words names an id
abbrev pub is_kept : List (Bor (List ℕ)) → ℕ → Bool
is_kept words id = not (words_name words id)

-- The set of the documents that are kept, of a store of this many. It has a place for each, and only those places are
-- alive whose id no word names. Without words there is none.
abbrev pub KeepsDocuments : List (Bor (List ℕ)) → ℕ → Option (List Bool) → Type 0
KeepsDocuments words count None = words ≡ []
KeepsDocuments words count (Some set) = (0 < length words) × (length set ≡ count)
    × ((id : ℕ) → id < count → is_alive_at set id ≡ is_kept words id)

-- A store of this many bytes has too many documents for a set: eight for each byte, or more.
abbrev pub HasTooManyDocuments : ℕ → ℕ → Type 0
HasTooManyDocuments count bytes = (0 < count) × (8 * bytes ≤ count)

-- Why words are refused for a store of this many documents and bytes.
abbrev pub RefusesSet : List (Bor (List ℕ)) → ℕ → ℕ → RequestError → Type 0
RefusesSet words count bytes (TooManyDocuments documents size) = (documents ≡ count) × (size ≡ bytes)
    × HasTooManyDocuments count bytes
RefusesSet words count bytes e = RefusesWords words count e

-- the bytes of a store's blocks and index, up to the greatest u64
abbrev pub bytes_of : Reading → ℕ
bytes_of reader = raised (length reader.file.content) (length (index_part reader.period reader.checkpoints))

-- the slots of a store that are kept
abbrev pub kept_slots : List (Bor (List ℕ)) → Reading → List Slot
kept_slots words reader = alive (slots (store_of reader)) (Some (is_kept words))

-- What a merge leaves of a reader: its store. Its file was asked for no more bytes than its data has.
pub record IsMergedReader (reader left : Reading) : Type 0 where
  pub store : IsSameStore reader left
  pub asked : IsAskedOnce reader left

-- Whether a store is stacked without the documents that words name: it has at least six blocks, and each document is
-- kept.
abbrev pub is_stacked_without : List (Bor (List ℕ)) → Reading → Bool
is_stacked_without words reader = nat_le 6 (length reader.checkpoints)
    && list_all (is_kept words) (range_with_len 0 (num_docs reader))

-- The whole data of a store that is stacked was read, once for each part of this many bytes.
abbrev pub IsReadIfStacked : ℕ → List (Bor (List ℕ)) → Reading → Reading → Type 0
IsReadIfStacked size words reader left = is_stacked_without words reader ≡ true → IsReadInParts size reader left

-- No read of a reader's file failed, but of a block of which the words keep no document.
abbrev pub IsSteadyMerge : List (Bor (List ℕ)) → Reading → Reading → Type 0
IsSteadyMerge words reader left = IsSteadyBetween (Some (is_kept words)) reader left 0 (num_docs reader)

-- a store as an input of a merge
abbrev pub input_of : (H : Type 0) → Reading → Option (List Bool) → MergeInput H
input_of H reader set = record { reader = reader; alive = set }

-- A call on the store or on the writer was refused, in a merge of this one input with the set of the documents that the
-- words keep. A store of version 1 is refused before anything is read or written.
pub record EndsStore (H : Type 0) (words : List (Bor (List ℕ))) (reader left : Reading) (old new : Writing)
    (e : StoreError) : Type 0 where
  pub set : Option (List Bool)
  pub kept : KeepsDocuments words (num_docs reader) set
  pub old_version : reader.version ≡ V1 → (e ≡ OldVersion) × (new ≡ old) × (left ≡ reader)
  pub ended : reader.version ≢ V1 → IsEnded BeginsStack (input_of H reader set ∷ []) (input_of H left set ∷ []) old new
      (record { error = e; input = 0 })
  pub works : IsFailed e ⊎ (new.output.failure ≡ old.output.failure)

-- Why a store was not merged: the words or memory, and then the writer is as it was; or a call that was refused.
abbrev pub EndsMerge : {H : Type 0} → List (Bor (List ℕ)) → Reading → Writing → Writing → MergeFailure H → Type 0
EndsMerge words reader old new (Request e) = RefusesSet words (num_docs reader) (bytes_of reader) e × (new ≡ old)
EndsMerge {H} words reader old new (Refused e left) = EndsStore H words reader left old new e
    × IsMergedReader reader left

-- It is the output's own error.
abbrev pub IsOfOutput : {H : Type 0} → MergeFailure H → Type 0
IsOfOutput (Request e) = ⊥
IsOfOutput (Refused e left) = e ≡ Failed Write
