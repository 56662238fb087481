use Rattle.std.proofs.Common.{◌≡◌, ◌++◌, take, map}
use Rattle.segmented_log.specs.TailBuffer.{moved}
use Rattle.segmented_log.proofs.tail_buffer.add_moved.Given as goal

abbrev pub invariant-loop-place : goal.invariant-loop-place
invariant-loop-place l = l.places.items ≡ l.initial.places.items ++ map (moved l.by) (take l.place-index l.more)
