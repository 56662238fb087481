-- The files of segments that are made of others.
use Rattle.std.specs.Prelude.{◌≡◌, ◌⊎◌, ℕ, ◌≤◌, ◌<◌, ◌^◌, List, [], ◌∷◌, length, map, Some, None}
use Rattle.std.specs.List.{Contains, flat_map}
use Rattle.store_base.specs.declared.error.StoreError.{StoreError}
use Rattle.store_base.specs.declared.error.StoreError.TheVariants.{TooManyDocs, BlockTooLarge}
use Rattle.store_format.specs.Block.{Slot, doc, damaged}
use Rattle.store_format.specs.Slots.{slots}
use Rattle.store_format.specs.StoreFile.{StoreBlock, file, IsStore}
use Rattle.docstore.specs.Trace.{Blocks}
use Rattle.store_reader.specs.Reading.{store_of}
use Rattle.store_merge.specs.Bringing.{Brought, stacked, copied, calls_of, AreBrought}
use Rattle.store_merge.specs.declared.input.MergeInput.{MergeInput}
use Rattle.store_folder.specs.Folder.{Look}
use Rattle.segmented_log.specs.Names.{segment_name}
use Rattle.segmented_log.specs.Causes.{IsDamaged, HasTooLong}

-- The folder has a store of these blocks as the segment of this number.
pub record HasBlocks (c : Look) (first : ℕ) (bs : List StoreBlock) : Type 0 where
  pub content : List ℕ
  pub period : ℕ
  pub version : ℕ
  pub store : IsStore period content version bs
  pub is : c (segment_name first) ≡ Some content

-- What comes of a store: its blocks as they are, if they are at least six, and else its documents.
abbrev pub ComesOf : List StoreBlock → Brought → Type 0
ComesOf bs (stacked cs) = (6 ≤ length bs) × (cs ≡ bs)
ComesOf bs (copied docs) = (length bs < 6) × (map doc docs ≡ slots bs)

-- This came of the segments of these numbers, in order.
abbrev pub ComeOf : Look → List ℕ → List Brought → Type 0
ComeOf c [] [] = Unit {0}
ComeOf c (first ∷ firsts) (part ∷ parts) = ((bs : List StoreBlock) × HasBlocks c first bs × ComesOf bs part) × ComeOf c firsts parts
ComeOf _ _ _ = ⊥

-- The segment of this number has the file of a store, with a period of 8, that took at a block size of 16384 what came of
-- segments of an earlier look, those of these numbers.
pub record HasJoined (old new : Look) (first : ℕ) (firsts : List ℕ) : Type 0 where
  pub parts : List Brought
  pub blocks : List StoreBlock
  pub came : ComeOf old firsts parts
  pub cut : Blocks 16384 (flat_map calls_of parts) blocks
  pub is : new (segment_name first) ≡ Some (file 8 3 blocks)

-- Each name of a segment has what it had, or nothing, or such a file.
abbrev pub JoinsSome : Look → Look → Type 0
JoinsSome old new = (first : ℕ) → (new (segment_name first) ≡ old (segment_name first)) ⊎ ((new (segment_name first) ≡ None)
    ⊎ ((firsts : List ℕ) × HasJoined old new first firsts))

-- The same, time after time.
pub data AreJoinedFrom (old : Look) : Look → Type 0 where
  none : AreJoinedFrom old old
  next : {mid new : Look} → AreJoinedFrom old mid → JoinsSome mid new → AreJoinedFrom old new

-- The blocks of a new store that took at this block size what came of the inputs of a merge.
pub record AreMerged {H : Type 0} (size : ℕ) (inputs : List (MergeInput H)) (blocks : List StoreBlock) : Type 0 where
  pub parts : List Brought
  pub came : AreBrought inputs parts
  pub cut : Blocks size (flat_map calls_of parts) blocks

-- The segment of this number has the file of such a store, with a period of 8 and a block size of 16384.
pub record HasMerged {H : Type 0} (inputs : List (MergeInput H)) (first : ℕ) (c : Look) : Type 0 where
  pub blocks : List StoreBlock
  pub are : AreMerged 16384 inputs blocks
  pub is : c (segment_name first) ≡ Some (file 8 3 blocks)

-- The folder has the stores of these inputs as the segments of these numbers.
abbrev pub HaveBlocks : {H : Type 0} → Look → List ℕ → List (MergeInput H) → Type 0
HaveBlocks c [] [] = Unit {0}
HaveBlocks c (first ∷ firsts) (x ∷ inputs) = HasBlocks c first (store_of x.reader) × HaveBlocks c firsts inputs
HaveBlocks _ _ _ = ⊥

-- Why a store takes no more of these slots: one of them is damaged, they are too many, or no block takes a record.
pub record RefusesJoin (block_size : ℕ) (all : List Slot) (e : StoreError) : Type 0 where
  pub damaged : IsDamaged e → Contains all damaged
  pub many : e ≡ TooManyDocs → 2 ^ 32 ≤ length all
  pub large : e ≡ BlockTooLarge → block_size ≡ 16384 → HasTooLong all
