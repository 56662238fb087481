use Rattle.std.proofs.Common.{◌≡◌, ◌≤◌, ℕ, List, length, drop}
use Rattle.store_c.specs.Getting.{ArePlacesIn, HasBlock}
use Rattle.store_c.proofs.getting.places_on.Given as goal

-- those so far have their places, and the rest stays
abbrev pub invariant-loop-at : goal.invariant-loop-at
invariant-loop-at l = record {
  on : l.found ≤ l.at;
  are : (file : List ℕ) → HasBlock file l.block.first l.block.end l.block.start l.block.bytes.now → ArePlacesIn file l.first l.fn.places l.found → ArePlacesIn file l.first l.places l.at;
  rest : drop l.at l.places ≡ drop l.at l.fn.places;
  size : length l.places ≡ length l.fn.places;
}
