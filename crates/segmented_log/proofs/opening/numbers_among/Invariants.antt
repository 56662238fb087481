use Rattle.std.proofs.Common.{map, take, string_bytes}
use Rattle.segmented_log.specs.Opening.{AreNumbersIn}
use Rattle.segmented_log.proofs.opening.numbers_among.Given as goal

-- the numbers among the names so far
abbrev pub invariant-loop-name : goal.invariant-loop-name
invariant-loop-name l = AreNumbersIn (map string_bytes (take l.name-index l.names)) l.numbers.items
