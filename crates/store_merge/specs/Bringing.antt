-- What comes of the inputs of a merge, and what that leaves of a writer.
use Rattle.std.specs.Prelude.{◌≡◌, ◌⊎◌, ℕ, None, Bool, true, false, IsTrue, List, [], ◌∷◌, ◌++◌, length, map}
use Rattle.std.specs.List.{fold}
use Rattle.store_format.specs.Block.{Slot, doc}
use Rattle.store_format.specs.Slots.{slots}
use Rattle.docstore.specs.Stacking.{AreRead, with_store}
use Rattle.store_format.specs.StoreFile.{StoreBlock}
use Rattle.docstore.specs.Laws.{taken}
use Rattle.docstore.specs.Trace.{Step, stack, accepted, took}
use Rattle.docstore.specs.Writer.{Writing, with_documents, with_failures}
use Rattle.store_merge.specs.declared.input.MergeInput.{MergeInput}
use Rattle.store_merge.specs.Choice.{is_stacked, alive_slots}

-- What came of an input: the blocks of its store, or documents one by one.
pub data Brought : Type 0 where
  stacked : List StoreBlock → Brought
  copied : List (List ℕ) → Brought

-- a writer after what came of an input
abbrev pub with_brought : Writing → Brought → Writing
with_brought w (stacked bs) = with_store w bs
with_brought w (copied docs) = with_documents w docs

-- the same of some inputs, in order
abbrev pub merged : Writing → List Brought → Writing
merged w parts = fold with_brought w parts

-- the calls that took what came of an input
abbrev pub calls_of : Brought → List Step
calls_of (stacked bs) = record { call = stack bs; answer = accepted } ∷ []
calls_of (copied docs) = map took docs

-- the slots that came of an input
abbrev pub slots_brought : Brought → List Slot
slots_brought (stacked bs) = slots bs
slots_brought (copied docs) = map doc docs

-- There is a document for each of these slots, and where the file is honest, it is the slot's.
pub record AreDocuments (honest : Bool) (some : List Slot) (docs : List (List ℕ)) : Type 0 where
  pub count : length docs ≡ length some
  pub truly : IsTrue honest → map doc docs ≡ some

-- The writer worked, or nothing was taken.
abbrev pub WorkedOrIdle : Writing → Writing → Type 0
WorkedOrIdle old new = (old.output.failure ≡ None) ⊎ (new ≡ old)

-- Documents of these slots come after those of a writer, one after the other.
pub record IsCopied (honest : Bool) (some : List Slot) (old new : Writing) : Type 0 where
  pub docs : List (List ℕ)
  pub came : AreDocuments honest some docs
  pub after : new ≡ with_failures new.output.failures (with_documents old docs)
  pub works : WorkedOrIdle old new
  pub grown : taken new ≡ taken old ++ map doc docs

-- This came of an input: its whole store where it is stacked, and its alive documents where it isn't.
abbrev pub IsBrought : {H : Type 0} → MergeInput H → Brought → Type 0
IsBrought x (stacked bs) = (is_stacked x ≡ true) × AreRead x.reader bs
IsBrought x (copied docs) = (is_stacked x ≡ false) × AreDocuments x.reader.file.honest (alive_slots x) docs

-- the same of each of some inputs
abbrev pub AreBrought : {H : Type 0} → List (MergeInput H) → List Brought → Type 0
AreBrought [] [] = Unit {0}
AreBrought (x ∷ inputs) (part ∷ parts) = IsBrought x part × AreBrought inputs parts
AreBrought _ _ = ⊥
