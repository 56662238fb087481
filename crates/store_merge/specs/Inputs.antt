-- The inputs of a merge, and what the taking of one leaves.
use Rattle.std.specs.Prelude.{◌≡◌, ◌≢◌, ◌≤◌, ◌⊎◌, ◌+◌, false, List, [], ◌∷◌, ◌++◌, length, IfSome, None}
use Rattle.store_format.specs.declared.version.DocStoreVersion.TheVariants.{V1}
use Rattle.docstore.specs.Laws.{taken}
use Rattle.store_reader.specs.Reading.{Reading, IsSameStore, num_docs as docs_of}
use Rattle.store_reader.specs.Walking.{PassesDead}
use Rattle.store_format.specs.Slots.{slots}
use Rattle.docstore.specs.Stacking.{AreRead, with_store}
use Rattle.store_format.specs.StoreFile.{StoreBlock}
use Rattle.docstore.specs.Writer.{Writing, with_failures}
use Rattle.store_merge.specs.declared.input.MergeInput.{MergeInput}
use Rattle.store_merge.specs.Choice.{is_stacked}
use Rattle.store_reader.specs.Iteration.{flags_of}
use Rattle.store_merge.specs.Stacking.{IsStackedBy}
use Rattle.store_merge.specs.Bringing.{Brought, IsBrought, with_brought, slots_brought, WorkedOrIdle}

-- An input's set, if it has one, has a flag for each of its documents.
abbrev pub HasWholeSet : {H : Type 0} → MergeInput H → Type 0
HasWholeSet x = IfSome x.alive (λ set. docs_of x.reader ≤ length set)

-- An input has such a set, and its documents are in no older form.
pub record CanBeTaken {H : Type 0} (x : MergeInput H) : Type 0 where
  pub set : HasWholeSet x
  pub version : x.reader.version ≢ V1

-- A reader's file was asked for no more bytes than its data has.
abbrev pub IsAskedOnce : Reading → Reading → Type 0
IsAskedOnce old new = new.file.asked ≤ old.file.asked + length old.file.content

-- What a merge leaves of an input: its store and its set. It was asked for its data once at most.
pub record IsInputKept {H : Type 0} (x left : MergeInput H) : Type 0 where
  pub store : IsSameStore x.reader left.reader
  pub set : left.alive ≡ x.alive
  pub asked : IsAskedOnce x.reader left.reader

-- No read of an input failed, but where it is copied of a block of which no document is alive.
abbrev pub IsSteadyInput : {H : Type 0} → MergeInput H → MergeInput H → Type 0
IsSteadyInput x left = (left.reader.file.failures ≡ x.reader.file.failures)
    ⊎ ((is_stacked x ≡ false) × PassesDead (flags_of x.alive) x.reader.checkpoints 0 (docs_of x.reader))

-- the same said of each input and what is left of it
abbrev pub AreEach : {H : Type 0} → (MergeInput H → MergeInput H → Type 0) → List (MergeInput H)
    → List (MergeInput H)
    → Type 0
AreEach Is [] [] = Unit {0}
AreEach Is (x ∷ inputs) (y ∷ left) = Is x y × AreEach Is inputs left
AreEach Is _ _ = ⊥

-- each of some inputs
abbrev pub AreInputsKept : {H : Type 0} → List (MergeInput H) → List (MergeInput H) → Type 0
AreInputsKept inputs left = AreEach IsInputKept inputs left

-- Each input that is stacked was read so.
abbrev pub AreStackedBy : {H : Type 0} → (Reading → Reading → Type 0) → List (MergeInput H)
    → List (MergeInput H)
    → Type 0
AreStackedBy Reads inputs left = AreEach (IsStackedBy Reads) inputs left

-- A store was stacked.
pub record IsStacked (reader : Reading) (old new : Writing) : Type 0 where
  pub blocks : List StoreBlock
  pub came : AreRead reader blocks
  pub works : old.output.failure ≡ None
  pub after : new ≡ with_failures new.output.failures (with_store old blocks)
  pub grown : taken new ≡ taken old ++ slots blocks

-- An input was taken: what came of it is after what was taken before.
pub record IsInputTaken {H : Type 0} (x : MergeInput H) (old new : Writing) : Type 0 where
  pub part : Brought
  pub came : IsBrought x part
  pub after : new ≡ with_failures new.output.failures (with_brought old part)
  pub works : WorkedOrIdle old new
  pub grown : taken new ≡ taken old ++ slots_brought part
