use Rattle.std.proofs.Common.{◌<◌, ◌^◌, map, take}
use Rattle.segmented_log.specs.Parts.{part_of}
use Rattle.segmented_log.proofs.ScanLemmas.{ScannedTo}
use Rattle.segmented_log.proofs.opening.end_of_segments.Given as goal

-- the segments so far are in line
abbrev pub invariant-loop-segment : goal.invariant-loop-segment
invariant-loop-segment g l = record {
  scanned : ScannedTo l.first l.end l.least (map (λ s. part_of s.first s.reader) (take l.segment-index l.segments));
  fits : l.end < 2 ^ 64;
}
