use Rattle.std.proofs.Common.{◌≡◌, map, take}
use Rattle.layered_index.specs.Checkpoint.{EndsAt}
use Rattle.layered_index.specs.Rows.{ends_in, ends_of}
use Rattle.store_c.proofs.ending.index_of.Given as goal

-- the blocks so far are in the index
abbrev pub invariant-loop-row : goal.invariant-loop-row
invariant-loop-row l = (l.index.period ≡ l.fn.period) × (map ends_of l.index.checkpoints ≡ take l.row-index (ends_in l.fn.ends)) × EndsAt l.start.end_doc l.start.end_byte l.index.checkpoints
