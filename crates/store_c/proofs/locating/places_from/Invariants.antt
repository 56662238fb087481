use Rattle.std.proofs.Common.{◌≡◌, ◌≤◌, ◌+◌, length, drop}
use Rattle.store_c.specs.Calls.{ArePlaces, IsTableBlock}
use Rattle.store_c.proofs.locating.places_from.Given as goal

-- those so far have their places, and the rest stays
abbrev pub invariant-loop-at : goal.invariant-loop-at
invariant-loop-at l = record {
  are : ArePlaces l.file l.table l.first l.places l.at;
  rest : drop l.at l.places ≡ drop l.at l.fn.places;
  size : length l.places ≡ length l.fn.places;
  from : l.block.doc_range.start ≤ l.first + l.at;
  held : IsTableBlock l.file l.table l.block;
}
