-- What it says of a block that it is called sound.
use Rattle.std.specs.Prelude.{◌≡◌, ℕ, ◌<◌, ◌^◌, true, List, length}
use Rattle.store_base.specs.Serialize.{IsBytes}
use Rattle.store_format.specs.Block.{block}
use Rattle.store_commands.specs.Checks.{is_sound}

-- Some documents, as many as this count, have a block of exactly these bytes.
pub record IsOfDocuments (bytes : List ℕ) (count : ℕ) : Type 0 where
  pub documents : List (List ℕ)
  pub count_is : length documents ≡ count
  pub are : bytes ≡ block documents

-- A sound block is the block of its documents.
abbrev pub SoundBlocksAreOfDocuments : Type 0
SoundBlocksAreOfDocuments = (bytes : List ℕ) (count : ℕ) → IsBytes bytes → 0 < count → is_sound bytes count ≡ true
    → IsOfDocuments bytes count

-- The block of some documents is sound.
abbrev pub BlocksOfDocumentsAreSound : Type 0
BlocksOfDocumentsAreSound = (documents : List (List ℕ)) → length (block documents) < 2 ^ 32
    → is_sound (block documents) (length documents) ≡ true
