use Rattle.std.proofs.Common.{◌≡◌, ◌<◌, ◌^◌, take}
use Rattle.segmented_log.specs.Names.{digits}
use Rattle.segmented_log.proofs.numbers.number_of.Given as goal

-- the number that the digits so far make
abbrev pub invariant-loop-byte : goal.invariant-loop-byte
invariant-loop-byte l = (take l.byte-index l.bytes ≡ digits l.byte-index l.number) × (l.number < 10 ^ l.byte-index)
