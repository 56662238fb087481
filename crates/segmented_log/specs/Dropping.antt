-- A log whose first segments are removed.
use Rattle.std.specs.Prelude.{◌≡◌, ◌⊎◌, ℕ, ◌+◌, ◌-◌, ◌^◌, ◌<◌, ◌≤◌, max, List, [], ◌∷◌, length, map, drop, Some, None}
use Rattle.std.specs.List.{AllByRecursion, Contains}
use Rattle.store_folder.specs.Folder.{Look, LosesFile}
use Rattle.store_format.specs.Block.{Slot}
use Rattle.log_tail.specs.Tail.{first_of}
use Rattle.segmented_log.specs.Names.{segment_name, tail_name}
use Rattle.segmented_log.specs.Parts.{Part, end_of, end_from, first_in, AreInLine, Ascend, AreParts}
use Rattle.segmented_log.specs.Log.{HasSegment, Holds, IsLog}

-- The first of these segments can be removed: its slots begin at the number `first` and end at `next`, which is at most
-- `number`, and the part after it begins there. The tail begins at `n`.
abbrev pub CanGo : ℕ → ℕ → List Part → ℕ → ℕ → Type 0
CanGo first number [] n next = ⊥
CanGo first number (part ∷ parts) n next = (0 < length part.slots) × (next ≡ first + length part.slots) × (next ≤ number) × (first_in parts n ≡ next)

-- What is left of a log's slots when some of the first are removed, none of which has this number or a later one.
pub record IsRest (first : ℕ) (all : List Slot) (number new_first : ℕ) (rest : List Slot) : Type 0 where
  pub grows : first ≤ new_first
  pub before : new_first ≤ max first number
  pub within : new_first ≤ first + length all
  pub slots_are : rest ≡ drop (new_first - first) all

-- The folder is a log of what is left of these slots.
pub record DropsTo (first : ℕ) (all : List Slot) (number : ℕ) (c : Look) : Type 0 where
  pub new_first : ℕ
  pub rest : List Slot
  pub is_rest : IsRest first all number new_first rest
  pub log : IsLog new_first rest c

-- What a crash leaves while the segment of this first number is removed: what it could leave before, with the segment or
-- without.
abbrev pub LosesSegment : (Look → Type 0) → ℕ → Look → Type 0
LosesSegment before first c = (old : Look) × before old × LosesFile (segment_name first) old c

-- Each name has what it had, or it had a segment whose slots all have smaller numbers than this one, and has no file.
abbrev pub RemovesOnly : ℕ → Look → Look → Type 0
RemovesOnly number old new = (n : List ℕ) → (new n ≡ old n) ⊎ ((part : Part) × HasSegment old part × (segment_name part.first ≡ n) × (end_of part ≤ number) × (new n ≡ None))

-- The folder is a log of this first number, whose first segment can't be removed.
pub record IsDropped (first number : ℕ) (c : Look) : Type 0 where
  pub segments : List Part
  pub tail : List ℕ
  pub parts : AreParts first segments tail
  pub holds : Holds segments tail c
  pub stays : (next : ℕ) → CanGo first number segments (first_of tail) next → ⊥

-- Old segments are gone, and nothing else: each name has what it had, or had a segment whose slots all have smaller numbers
-- than this one. Whatever log the folder was, the rest of it is left.
pub record LosesOld (number : ℕ) (old new : Look) : Type 0 where
  pub files : RemovesOnly number old new
  pub log : (first : ℕ) (all : List Slot) → IsLog first all old → DropsTo first all number new

-- What a crash leaves while old segments are removed: what it could leave before, maybe without some of them.
abbrev pub IsOldWithout : ℕ → (Look → Type 0) → Look → Type 0
IsOldWithout number before c = (old : Look) × before old × LosesOld number old c

-- If the folder is a log, its first slot has this number.
abbrev pub BeginsAt : ℕ → Look → Type 0
BeginsAt n c = (first : ℕ) (all : List Slot) → IsLog first all c → first ≡ n

-- If the folder has a tail, this is the number of the tail's first slot, or 0.
abbrev pub TailBeginsAt : ℕ → Look → Type 0
TailBeginsAt n c = (tail : List ℕ) → c tail_name ≡ Some tail → 0 < n → first_of tail ≡ n

-- The folder has these segments and no others.
pub record HasOnly (segments : List Part) (c : Look) : Type 0 where
  pub each : AllByRecursion (HasSegment c) segments
  pub no_others : (first : ℕ) → first < 2 ^ 64 → (c (segment_name first) ≡ None) ⊎ Contains (map (λ part. part.first) segments) first

-- They are the segments of one log, whatever its tail is.
pub record AreOfOneLog (segments : List Part) : Type 0 where
  pub in_line : AreInLine (first_in segments 0) segments
  pub ascend : Ascend 0 segments
  pub fits : end_from (first_in segments 0) segments < 2 ^ 64

-- The folder's segments are those of one log, and none of them can be removed that another one follows.
pub record HasNoOld (number : ℕ) (c : Look) : Type 0 where
  pub segments : List Part
  pub only : HasOnly segments c
  pub are : AreOfOneLog segments
  pub stays : (next : ℕ) → CanGo (first_in segments 0) number segments 0 next → ⊥
