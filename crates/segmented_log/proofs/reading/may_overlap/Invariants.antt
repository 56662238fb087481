use Rattle.std.proofs.Common.{◌≡◌, map, take}
use Rattle.segmented_log.specs.Parts.{part_of}
use Rattle.segmented_log.specs.Compacting.{AreNext}
use Rattle.segmented_log.proofs.StepLemmas.{end_after}
use Rattle.segmented_log.proofs.reading.may_overlap.Given as goal

-- each segment so far begins where the one before it ends
abbrev pub invariant-loop-segment : goal.invariant-loop-segment
invariant-loop-segment g l = let parts = map (λ s. part_of s.first s.reader) (take l.segment-index l.segments) in
    record {
      next : AreNext l.first parts;
      end : l.end ≡ end_after l.first parts;
    }
