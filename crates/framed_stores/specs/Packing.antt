-- Documents of inputs that are put into a store.
use Rattle.std.specs.Prelude.{◌≡◌, ℕ, List, [], ◌++◌, length, map, IsTrue, Option, None, Some, IfSome, refl}
use Rattle.std.proofs.Common.{sym, append-nil}
use Rattle.docstore.specs.Laws.{taken}
use Rattle.docstore.specs.Writer.{Writing}
use Rattle.store_format.specs.Block.{Slot, doc}
use Rattle.store_format.specs.Slots.{slots}
use Rattle.store_published.specs.Filling.{AddsDocuments}
use Rattle.store_reader.specs.Reading.{Reading, store_of}

-- These are all documents of inputs, where it is known what they hold, and as many as were expected.
pub record AreAll (expected : Option ℕ) (known : Option (List (List ℕ))) (documents : List (List ℕ)) : Type 0 where
  pub all : IfSome known (λ all. documents ≡ all)
  pub count : IfSome expected (λ n. length documents ≡ n)

-- All documents of inputs were put after those of a writer.
pub record AddsAll (expected : Option ℕ) (known : Option (List (List ℕ))) (old new : Writing) : Type 0 where
  pub documents : List (List ℕ)
  pub added : AddsDocuments documents old new
  pub are_all : AreAll expected known documents

-- the slots of a store, if there is one
abbrev pub slots_before : Option Reading → List Slot
slots_before None = []
slots_before (Some reader) = slots (store_of reader)

-- Its file is honest, if there is one.
abbrev pub IsHonest : Option Reading → Type 0
IsHonest None = Unit {0}
IsHonest (Some reader) = IsTrue reader.file.honest

-- The slots are those of a store, if there is one and its file is honest, and then those of all documents of inputs.
pub record ArePacked (store : Option Reading) (expected : Option ℕ) (known : Option (List (List ℕ))) (all : List Slot) : Type 0 where
  pub documents : List (List ℕ)
  pub are : IsHonest store → all ≡ slots_before store ++ map doc documents
  pub are_all : AreAll expected known documents

-- no document was put after those of a writer
pub adds_no_document : (w : Writing) → AddsDocuments [] w w
adds_no_document w = record { grown = sym (append-nil (taken w)); file = record { before = refl; period = refl }; stored = refl }
