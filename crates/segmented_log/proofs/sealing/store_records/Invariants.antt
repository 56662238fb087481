use Rattle.std.proofs.Common.{◌≡◌, take}
use Rattle.log_tail.specs.Place.{contents}
use Rattle.store_published.specs.Filling.{AddsDocuments}
use Rattle.segmented_log.proofs.sealing.store_records.Given as goal

-- the records so far were put after those of the writer
abbrev pub invariant-loop-place : goal.invariant-loop-place
invariant-loop-place g l = AddsDocuments (contents l.tail (take l.place-index l.places)) l.fn.writer l.writer × (l.writer.block_size ≡ l.fn.writer.block_size)
