-- What a merge does.
use Rattle.std.specs.Prelude.{◌≡◌, ◌≤◌, ℕ, IsTrue, List, ◌++◌, take, slice_get, Some, IfSome}
use Rattle.std.specs.List.{flat_map}
use Rattle.store_base.specs.declared.error.Cause.{Cause}
use Rattle.store_base.specs.declared.error.StoreError.{StoreError}
use Rattle.store_base.specs.declared.error.StoreError.TheVariants.{Failed}
use Rattle.store_format.specs.Block.{Slot}
use Rattle.docstore.specs.Laws.{taken}
use Rattle.store_reader.specs.Reading.{Reading}
use Rattle.docstore.specs.Writer.{Writing, with_failures}
use Rattle.store_merge.specs.declared.input.MergeInput.{MergeInput}
use Rattle.store_merge.specs.declared.merge_error.MergeError.{MergeError}
use Rattle.store_merge.specs.Bringing.{Brought, merged, slots_brought, AreBrought, WorkedOrIdle}
use Rattle.store_merge.specs.Choice.{alive_slots}
use Rattle.store_merge.specs.Refusals.{RefusesInput, HasGrown}

-- Reads of an input's file give what it holds.
abbrev pub IsHonest : {H : Type 0} → MergeInput H → Type 0
IsHonest x = IsTrue x.reader.file.honest

-- What came of the inputs, in order, is after what the writer had taken.
pub record IsMerged {H : Type 0} (inputs : List (MergeInput H)) (old new : Writing) : Type 0 where
  pub parts : List Brought
  pub came : AreBrought inputs parts
  pub after : new ≡ with_failures new.output.failures (merged old parts)
  pub works : WorkedOrIdle old new
  pub grown : taken new ≡ taken old ++ flat_map slots_brought parts

-- The writer has failed.
abbrev pub IsFailed : StoreError → Type 0
IsFailed e = (cause : Cause) × (e ≡ Failed cause)

-- What the writer has grown by is a beginning of the alive slots of the inputs, whole through those before this place.
pub record HasBegun {H : Type 0} (inputs : List (MergeInput H)) (place : ℕ) (old new : Writing) : Type 0 where
  pub more : List Slot
  pub grown : taken new ≡ taken old ++ flat_map alive_slots (take place inputs) ++ more
  pub front : IfSome (slice_get inputs place) (λ x. (rest : List Slot) × (alive_slots x ≡ more ++ rest))

-- The inputs before the one that is named were taken, and this one was refused, which leaves this where it is stacked
-- and its data was refused.
pub record IsEnded {H : Type 0} (Left : Reading → Writing → Writing → Type 0) (inputs left : List (MergeInput H))
    (old new : Writing) (e : MergeError) : Type 0 where
  pub before : Writing
  pub taken_before : IsMerged (take e.input inputs) old before
  pub count : old.output.failures ≤ before.output.failures
  pub named : MergeInput H
  pub is_named : slice_get inputs e.input ≡ Some named
  pub rest : MergeInput H
  pub is_left : slice_get left e.input ≡ Some rest
  pub refused : RefusesInput Left named rest before new e.error
  pub more : new.output.failure ≡ before.output.failure → HasGrown named before new
