use Rattle.std.proofs.Common.{◌≡◌, map, take, All}
use Rattle.std.specs.Prelude.{IsTrue}
use Rattle.std.specs.List.{AllByRecursion, flat_map}
use Rattle.store_merge.specs.Choice.{alive_slots}
use Rattle.store_merge.specs.Merge.{IsHonest}
use Rattle.segmented_log.specs.Parts.{part_of}
use Rattle.segmented_log.specs.Log.{HasSegment}
use Rattle.segmented_log.specs.Compacting.{slots_in, IsWhole}
use Rattle.segmented_log.specs.Joining.{HaveBlocks}
use Rattle.segmented_log.proofs.joining.open_inputs.Given as goal

-- the inputs so far
abbrev pub invariant-loop-segment : goal.invariant-loop-segment
invariant-loop-segment g l =
    (IsTrue g.F.Folder.honest → All (λ s. HasSegment (g.F.Folder.seen l.folder) (part_of s.first s.reader)) l.segments
    → flat_map alive_slots l.inputs.items ≡ slots_in (map (λ s. part_of s.first s.reader) (take l.segment-index l.segments)))
    × (IsTrue g.F.Folder.honest → AllByRecursion IsHonest l.inputs.items)
    × (IsTrue g.F.Folder.honest → HaveBlocks (g.F.Folder.seen l.folder) (map (λ s. s.first) (take l.segment-index l.segments)) l.inputs.items)
    × AllByRecursion IsWhole l.inputs.items
