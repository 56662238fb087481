-- What was stored is found and read again.
use Rattle.std.specs.Prelude.{◌≡◌, ℕ, List, ◌∷◌, ◌++◌, length, slice_get, Some}
use Rattle.store_format.specs.Block.{doc}
use Rattle.store_format.specs.Slots.{slots}
use Rattle.store_format.specs.StoreFile.{StoreBlock, file, IsStore}
use Rattle.docstore.specs.Trace.{Step, adds, effect, meaning, Blocks}

-- The document that a call of a trace brought has the id that was next, whatever was called before and after.
abbrev pub DocumentsHaveTheirIds : Type 0
DocumentsHaveTheirIds = (before after : List Step) (s : Step) (bytes : List ℕ) → effect s ≡ adds bytes
    → slice_get (meaning (before ++ s ∷ after)) (length (meaning before)) ≡ Some (doc bytes)

-- Whatever store is found in the file of a list of writing calls, it has the list's period and version 3, and its slots
-- are what the
-- calls brought, whatever the block size.
abbrev pub WrittenListsAreFound : Type 0
WrittenListsAreFound = (size period : ℕ) (trace : List Step) (blocks : List StoreBlock) (found_period version : ℕ)
    (bs : List StoreBlock) → IsStore period (file period 3 blocks) 3 blocks → Blocks size trace blocks
    → IsStore found_period (file period 3 blocks) version bs
    → (found_period ≡ period) × (version ≡ 3) × (slots bs ≡ meaning trace)
