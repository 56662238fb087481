use Rattle.std.proofs.Common.{ℕ, ◌≤◌, ◌<◌, ◌-◌, length, map, take}
use Rattle.std.specs.Prelude.{All, HoldsAt}
use Rattle.segmented_log.specs.Parts.{part_of, end_of}
use Rattle.segmented_log.specs.Compacting.{AreNext}
use Rattle.segmented_log.proofs.reading.find_by_halves.Given as goal

-- the segments before the low place don't end after the number, and the one at the high place does
abbrev pub invariant-loop-low : goal.invariant-loop-low
invariant-loop-low g l = record {
  order : l.low ≤ l.high;
  within : l.high ≤ length l.segments;
  before : (n : ℕ) → AreNext n (map (λ s. part_of s.first s.reader) l.segments) → All (λ s. end_of (part_of s.first s.reader) ≤ l.number) (take l.low l.segments);
  found : l.high < length l.segments → HoldsAt (λ s. l.number < end_of (part_of s.first s.reader)) l.segments l.high;
}

abbrev pub decreases-loop-low : goal.decreases-loop-low
decreases-loop-low g l = l.high - l.low
