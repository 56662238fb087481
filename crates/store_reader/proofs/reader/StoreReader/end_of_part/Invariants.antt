use Rattle.std.proofs.Common.{◌≡◌, ◌+◌, ◌-◌, ◌<◌, ◌≤◌, ◌⊎◌, length, drop}
use Rattle.store_reader.specs.Parts.{parts_beyond, byte_at}
use Rattle.store_reader.proofs.reader.StoreReader.end_of_part.Given as goal

abbrev pub invariant-loop-block : goal.invariant-loop-block
invariant-loop-block g l = record {
  some : l.fn.number < l.end.block;
  last : l.end.block ≤ length l.self.checkpoints;
  byte : l.end.byte ≡ byte_at l.end.block l.self.checkpoints;
  following : l.fn.first.byte_range.end ≤ l.end.byte;
  few_bytes : (l.end.block ≡ l.fn.number + 1) ⊎ (l.end.byte ≤ l.fn.first.byte_range.start + l.part_bytes);
  parts : parts_beyond l.part_bytes (l.fn.first.byte_range.start + l.part_bytes) (drop (l.fn.number + 1) l.self.checkpoints)
      ≡ parts_beyond l.part_bytes (l.fn.first.byte_range.start + l.part_bytes) (drop l.end.block l.self.checkpoints);
}

abbrev pub decreases-loop-block : goal.decreases-loop-block
decreases-loop-block g l = length l.self.checkpoints - l.end.block
