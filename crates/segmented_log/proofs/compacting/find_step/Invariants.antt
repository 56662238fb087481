use Rattle.std.proofs.Common.{◌≡◌, map}
use Rattle.segmented_log.specs.Parts.{sealed_of}
use Rattle.segmented_log.proofs.StepLemmas.{AreApartTo}
use Rattle.segmented_log.proofs.compacting.find_step.Given as goal

-- the neighbours so far are apart
abbrev pub invariant-loop-first : goal.invariant-loop-first
invariant-loop-first g l = l.from ≡ 0 → AreApartTo l.first l.size (map (λ s. sealed_of s.first s.reader) l.segments)
