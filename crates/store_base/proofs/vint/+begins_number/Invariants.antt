use Rattle.std.proofs.Common.{length}
use Rattle.store_base.proofs.vint.+begins_number.Given as goal

-- what is left to look at
abbrev pub decreases-begins_number : goal.decreases-begins_number
decreases-begins_number l = length l.bytes.now
