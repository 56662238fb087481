use Rattle.std.proofs.Common.{◌-◌, length}
use Rattle.docstore.proofs.ReadInPartsLemmas.{HasStacked}
use Rattle.docstore.proofs.store_compressor.BlockCompressor.stack_reader_in_parts.Given as goal

abbrev pub invariant-loop-part : goal.invariant-loop-part
invariant-loop-part g l = HasStacked l.part_bytes l.next_block l.fn.reader l.reader l.fn.self l.self

abbrev pub decreases-loop-part : goal.decreases-loop-part
decreases-loop-part g l = length l.fn.reader.checkpoints - l.next_block
