use Rattle.std.proofs.Common.{◌≡◌, map, take, All}
use Rattle.std.specs.Prelude.{IsTrue}
use Rattle.segmented_log.specs.Parts.{part_of}
use Rattle.segmented_log.specs.Log.{HasSegment}
use Rattle.segmented_log.proofs.opening.open_segments.Given as goal

-- the segments so far
abbrev pub invariant-loop-number : goal.invariant-loop-number
invariant-loop-number g l =
    (map (λ x. x.first) l.segments.items ≡ take l.number-index l.numbers)
    × (IsTrue g.F.Folder.honest → All (λ x. HasSegment (g.F.Folder.seen l.folder) (part_of x.first x.reader)) l.segments.items)
    × (IsTrue g.F.Folder.honest → All (λ x. IsTrue x.reader.file.honest) l.segments.items)
