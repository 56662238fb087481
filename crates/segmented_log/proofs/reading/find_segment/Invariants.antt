use Rattle.std.proofs.Common.{◌≤◌, take, All}
use Rattle.segmented_log.specs.Parts.{part_of, end_of}
use Rattle.segmented_log.proofs.reading.find_segment.Given as goal

-- none of the segments so far ends after the number
abbrev pub invariant-loop-i : goal.invariant-loop-i
invariant-loop-i g l = All (λ s. end_of (part_of s.first s.reader) ≤ l.number) (take l.i l.segments)
