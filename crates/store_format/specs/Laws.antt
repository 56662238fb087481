-- What blocks and whole files promise.
use Rattle.std.specs.Prelude.{◌≡◌, ◌↔◌, ℕ, ◌+◌, ◌*◌, ◌<◌, ◌≤◌, ◌^◌, List, [], ◌∷◌, length, map}
use Rattle.std.specs.List.{concat}
use Rattle.store_format.specs.Block.{doc, block}
use Rattle.store_format.specs.Slots.{slots}
use Rattle.store_format.specs.StoreFile.{StoreBlock, AreBlocks, block_of, file, IsStore}

-- The slots of a block that is made of documents are these documents.
abbrev pub BlocksHoldDocuments : Type 0
BlocksHoldDocuments = (docs : List (List ℕ)) → length (block docs) < 2 ^ 32 → slots (block_of docs ∷ []) ≡ map doc docs

-- A block has the bytes of its documents, and four for each of them and for their number.
abbrev pub BlocksHaveTheirLengths : Type 0
BlocksHaveTheirLengths = (docs : List (List ℕ)) → length (block docs) ≡ length (concat docs) + 4 * length docs + 4

-- So the block of one document, alone or after an empty one, is short enough up to these lengths of the document.
abbrev pub LongestDocuments : Type 0
LongestDocuments = (doc : List ℕ) → ((length (block (doc ∷ [])) < 2 ^ 32) ↔ (length doc ≤ 4294967287))
    × ((length (block ([] ∷ doc ∷ [])) < 2 ^ 32) ↔ (length doc ≤ 4294967283))

-- The file that is written for blocks is a store of them.
abbrev pub FilesAreStores : Type 0
FilesAreStores = (period : ℕ) (bs : List StoreBlock) → 2 ≤ period → period ≤ 64 → AreBlocks bs
    → IsStore period (file period 3 bs) 3 bs

-- A file is a store of one version, one period and one list of blocks at most.
abbrev pub StoresAreApart : Type 0
StoresAreApart = (p q : ℕ) (bytes : List ℕ) (v w : ℕ) (bs cs : List StoreBlock) → IsStore p bytes v bs
    → IsStore q bytes w cs → (p ≡ q) × (v ≡ w) × (bs ≡ cs)
