use Rattle.std.proofs.Common.{◌≡◌, ◌≤◌, ◌<◌, ◌+◌, ◌^◌, length, drop}
use Rattle.store_reader.specs.Opening.{IsSomeStore}
use Rattle.store_reader.specs.StoreSlices.{AreLeft}
use Rattle.store_c.specs.Getting.{ArePlacesIn, HasBlock}
use Rattle.store_c.proofs.getting.places_from.Given as goal

-- those so far have their places, the rest stays, and the block has the next document or is followed by its block
abbrev pub invariant-loop-block : goal.invariant-loop-block
invariant-loop-block l = record {
  are : ArePlacesIn l.store l.first l.places l.found;
  rest : drop l.found l.places ≡ drop l.found l.fn.places;
  size : length l.places ≡ length l.fn.places;
  room : l.found ≤ length l.places;
  from : l.block.first ≤ l.first + l.found;
  to : l.first + l.found ≤ l.block.end;
  held : HasBlock l.store l.block.first l.block.end l.block.start l.block.bytes.now;
  fits : l.block.start + length l.block.bytes.now < 2 ^ 64;
  bytes : l.blocks.bytes ≡ l.store;
  next : l.blocks.next ≡ l.block.end;
  left : (s : IsSomeStore l.store) → AreLeft l.store s l.blocks;
}

abbrev pub decreases-loop-block : goal.decreases-loop-block
decreases-loop-block l = length l.blocks.checkpoints
