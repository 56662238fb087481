use Rattle.std.proofs.Common.{◌≡◌, Some, map, take}
use Rattle.store_commands.specs.NumberRanges.{range_named}
use Rattle.store_commands.proofs.number_range.ranges_of.Given as goal

-- the ranges of the words so far
abbrev pub invariant-loop-word : goal.invariant-loop-word
invariant-loop-word l = map (λ word. range_named word.now) (take l.word-index l.words) ≡ map Some l.ranges.items
