-- The parts of a log, its segments and its tail, and the slots that they have together.
use Rattle.std.specs.Prelude.{◌≡◌, ℕ, ◌+◌, ◌-◌, ◌^◌, ◌<◌, ◌≤◌, max, List, [], ◌∷◌, ◌++◌, length, drop, map}
use Rattle.store_format.specs.Block.{Slot, doc}
use Rattle.store_format.specs.Slots.{slots}
use Rattle.store_format.specs.declared.version.DocStoreVersion.{DocStoreVersion}
use Rattle.store_reader.specs.Reading.{Reading, store_of}
use Rattle.log_tail.specs.Tail.{records_of, first_of, IsTail}

-- a part: the number of its first slot, and its slots
pub record Part : Type 0 where
  pub first : ℕ
  pub slots : List Slot

-- the number after its last one
abbrev pub end_of : Part → ℕ
end_of part = part.first + length part.slots

-- the part of a store that a reader has
abbrev pub part_of : ℕ → Reading → Part
part_of first reader = record { first = first; slots = slots (store_of reader) }

-- a segment that is open: its part, how many bytes its store's data has, and the version of its store
pub record Sealed : Type 0 where
  pub part : Part
  pub bytes : ℕ
  pub version : DocStoreVersion

-- the segment of a reader
abbrev pub sealed_of : ℕ → Reading → Sealed
sealed_of first reader = record { part = part_of first reader; bytes = length reader.file.content; version = reader.version }

-- the parts of segments
abbrev pub parts_of : List Sealed → List Part
parts_of segments = map (λ s. s.part) segments

-- the slots of a tail's file
abbrev pub tail_slots : List ℕ → List Slot
tail_slots file = map doc (records_of file)

-- the number after the last record of a tail's file
abbrev pub tail_end : List ℕ → ℕ
tail_end file = first_of file + length (records_of file)

-- the number of the first slot of these segments, or this one where there are none
abbrev pub first_in : List Part → ℕ → ℕ
first_in [] n = n
first_in (part ∷ parts) n = part.first

-- where parts end that begin at a number
abbrev pub end_from : ℕ → List Part → ℕ
end_from n [] = n
end_from n (part ∷ parts) = end_from (max n (end_of part)) parts

-- The slots of parts from a number on. What a part repeats of those before it is skipped.
abbrev pub joined : ℕ → List Part → List Slot
joined n [] = []
joined n (part ∷ parts) = drop (n - part.first) part.slots ++ joined (max n (end_of part)) parts

-- Each part has slots, and begins at or before the number where those before it end.
abbrev pub AreInLine : ℕ → List Part → Type 0
AreInLine n [] = Unit {0}
AreInLine n (part ∷ parts) = (part.first ≤ n) × (0 < length part.slots) × AreInLine (max n (end_of part)) parts

-- Their first numbers ascend, from this number on.
abbrev pub Ascend : ℕ → List Part → Type 0
Ascend n [] = Unit {0}
Ascend n (part ∷ parts) = (n ≤ part.first) × Ascend (part.first + 1) parts

-- the slots of a log of these segments and this tail's file, the first of which has this number
abbrev pub log_slots : ℕ → List Part → List ℕ → List Slot
log_slots first segments tail = joined first segments ++ drop (end_from first segments - first_of tail) (tail_slots tail)

-- The segments and the tail are in line, and no number is missing between them: the tail begins at or before the number
-- where the segments end, and ends at it or after it.
pub record AreParts (first : ℕ) (segments : List Part) (tail : List ℕ) : Type 0 where
  pub first_is : first ≡ first_in segments (first_of tail)
  pub in_line : AreInLine first segments
  pub ascend : Ascend first segments
  pub fits : end_from first segments < 2 ^ 64
  pub is_tail : IsTail tail
  pub meets : first_of tail ≤ end_from first segments
  pub reaches : end_from first segments ≤ tail_end tail
