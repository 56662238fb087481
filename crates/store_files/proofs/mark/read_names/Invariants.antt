use Rattle.std.proofs.Common.{◌≡◌, length}
use Rattle.store_files.specs.Mark.{texts, fields}
use Rattle.store_files.proofs.mark.read_names.Given as goal

abbrev pub invariant-loop-name : goal.invariant-loop-name
invariant-loop-name l = l.bytes ≡ fields (texts l.names.items) l.left

abbrev pub decreases-loop-name : goal.decreases-loop-name
decreases-loop-name l = length l.left
