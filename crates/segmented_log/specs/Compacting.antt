-- A log whose neighbouring segments are joined.
use Rattle.std.specs.Prelude.{◌≡◌, ◌≢◌, ◌⊎◌, ℕ, ◌+◌, ◌<◌, ◌≤◌, ◌^◌, List, [], ◌∷◌, ◌++◌, length, take, drop, set, slice_get, Some, None, IsSome}
use Rattle.std.specs.List.{flat_map, sum_by, remove}
use Rattle.store_format.specs.declared.version.DocStoreVersion.TheVariants.{V1}
use Rattle.store_format.specs.Block.{Slot}
use Rattle.store_format.specs.Slots.{slots}
use Rattle.store_format.specs.StoreFile.{StoreBlock, AreBlocks, data_of}
use Rattle.store_reader.specs.Reading.{num_docs, store_of}
use Rattle.store_merge.specs.declared.input.MergeInput.{MergeInput}
use Rattle.store_folder.specs.Folder.{Look}
use Rattle.store_folder.specs.Publishing.{part}
use Rattle.segmented_log.specs.Names.{segment_name}
use Rattle.segmented_log.specs.Parts.{Part, Sealed, end_of, end_from, parts_of, AreParts}
use Rattle.segmented_log.specs.Log.{Holds}

-- the slots of parts, one after the other
abbrev pub slots_in : List Part → List Slot
slots_in parts = flat_map (λ p. p.slots) parts

-- how many bytes the data of segments has
abbrev pub bytes_in : List Sealed → ℕ
bytes_in segments = sum_by (λ s. s.bytes) segments

-- All slots of an input are alive, and there is one for each document.
pub record IsWhole {H : Type 0} (x : MergeInput H) : Type 0 where
  pub alive : x.alive ≡ None
  pub counted : num_docs x.reader ≡ length (slots (store_of x.reader))

-- Each part begins where the one before it ends, the first of them at this number.
abbrev pub AreNext : ℕ → List Part → Type 0
AreNext n [] = Unit {0}
AreNext n (p ∷ parts) = (p.first ≡ n) × AreNext (end_of p) parts

-- Some of a log's parts, in order: those before this place, the part there, this many that begin where it and they end, and
-- the others.
pub record IsRun (parts : List Part) (place count : ℕ) : Type 0 where
  pub before : List Part
  pub head : Part
  pub run : List Part
  pub after : List Part
  pub split : parts ≡ before ++ head ∷ (run ++ after)
  pub place_is : length before ≡ place
  pub count_is : length run ≡ count
  pub next : AreNext (end_of head) run

-- the part that a run becomes
abbrev pub one_of : {parts : List Part} {place count : ℕ} → IsRun parts place count → Part
one_of r = record { first = r.head.first; slots = r.head.slots ++ slots_in r.run }

-- Its data is blocks that have its slots.
pub record IsOfStore (s : Sealed) : Type 0 where
  pub blocks : List StoreBlock
  pub are : AreBlocks blocks
  pub slots_are : slots blocks ≡ s.part.slots
  pub bytes_are : length (data_of blocks) ≡ s.bytes

-- A segment of all slots of a run has the place of the run's first segment. The others stay.
pub record BecomesOne (old : List Sealed) {place count : ℕ} (run : IsRun (parts_of old) place count) (new : List Sealed) : Type 0 where
  pub one : Sealed
  pub part_is : one.part ≡ one_of run
  pub store : IsOfStore one
  pub new_is : new ≡ set old place one

-- The segment at this place and those that follow it can become one: they are at most a hundred, their data together has at
-- most `size` bytes, and a store has numbers for their slots.
pub record CanBecomeOne (size : ℕ) (segments : List Sealed) (place count : ℕ) : Type 0 where
  pub run : IsRun (parts_of segments) place count
  pub some : 0 < count
  pub few : count < 100
  pub small : bytes_in (take (count + 1) (drop place segments)) ≤ size
  pub numbered : length (slots_in (take (count + 1) (drop place (parts_of segments)))) < 2 ^ 32

-- A part has all slots of the first of those after it, and may have more.
abbrev pub CoversFirst : Part → List Part → Type 0
CoversFirst head [] = ⊥
CoversFirst head (p ∷ parts) = end_of p ≤ end_of head

-- The first of those after a part ends after it.
abbrev pub IsPassedByFirst : Part → List Part → Type 0
IsPassedByFirst head [] = Unit {0}
IsPassedByFirst head (p ∷ parts) = end_of head < end_of p

-- The part at this place covers the next one.
pub record CoversNext (parts : List Part) (place : ℕ) : Type 0 where
  pub before : List Part
  pub head : Part
  pub covered : Part
  pub after : List Part
  pub split : parts ≡ before ++ head ∷ covered ∷ after
  pub place_is : length before ≡ place
  pub ends : end_of covered ≤ end_of head

-- The segment at this place and those that follow it can become one; or it covers the next one where none follow it.
pub record IsStep (size : ℕ) (segments : List Sealed) (place count : ℕ) : Type 0 where
  pub joins : 0 < count → CanBecomeOne size segments place count
  pub covers : count ≡ 0 → CoversNext (parts_of segments) place

-- The old segments become the new ones by steps, each of which makes one segment of some that can become one, or removes one
-- that the one before it covers.
pub data Compacts (size : ℕ) (old : List Sealed) : List Sealed → Type 0 where
  stay : Compacts size old old
  join : {mid new : List Sealed} {place count : ℕ} → Compacts size old mid → (can : CanBecomeOne size mid place count) → BecomesOne mid can.run new → Compacts size old new
  remove_next : {mid : List Sealed} {place : ℕ} → Compacts size old mid → CoversNext (parts_of mid) place → Compacts size old (remove mid (place + 1))

-- The part at this place has no slot that those before it have not.
pub record IsCovered (first : ℕ) (parts : List Part) (place : ℕ) : Type 0 where
  pub before : List Part
  pub covered : Part
  pub after : List Part
  pub split : parts ≡ before ++ covered ∷ after
  pub place_is : length before ≡ place
  pub some : 0 < place
  pub ends : end_of covered ≤ end_from first before

-- A segment can follow others in one store: it begins at the number where they end, their data has no more than `size`
-- bytes with it, a store has numbers for their records, and its documents are in no older form.
pub record CanFollow (size end bytes records : ℕ) (s : Sealed) : Type 0 where
  pub next : s.part.first ≡ end
  pub small : bytes + s.bytes ≤ size
  pub few : records + length s.part.slots < 2 ^ 32
  pub fits : end_of s.part < 2 ^ 64
  pub newer : s.version ≢ V1

-- Two neighbours can be joined.
abbrev pub CanJoin : ℕ → Sealed → Sealed → Type 0
CanJoin size a b = (a.version ≢ V1) × CanFollow size (end_of a.part) a.bytes (length a.part.slots) b

-- The first of some segments can be joined with the one before them.
abbrev pub CanJoinFirst : ℕ → Sealed → List Sealed → Type 0
CanJoinFirst size a [] = ⊥
CanJoinFirst size a (b ∷ others) = CanJoin size a b

-- No segment is covered by the one before it, and none can be joined with it.
abbrev pub AreApart : ℕ → List Sealed → Type 0
AreApart size segments = (i : ℕ) (a b : Sealed) → slice_get segments i ≡ Some a → slice_get segments (i + 1) ≡ Some b
    → (end_of a.part < end_of b.part) × (CanJoin size a b → ⊥)

-- The folder has these segments, and no neighbours of them can be joined.
pub record IsCompacted (first size : ℕ) (segments : List Sealed) (c : Look) : Type 0 where
  pub tail : List ℕ
  pub parts : AreParts first (parts_of segments) tail
  pub holds : Holds (parts_of segments) tail c
  pub apart : AreApart size segments

-- Each name has what it had, but for names of segments that were there, and those of the files beside them.
abbrev pub ChangesSegments : Look → Look → Type 0
ChangesSegments old new = (n : List ℕ) → (new n ≡ old n) ⊎ ((first : ℕ) × IsSome (old (segment_name first))
    × ((n ≡ segment_name first) ⊎ (n ≡ segment_name first ++ part)))
