use Rattle.std.proofs.Common.{◌≡◌, ◌≤◌, ◌+◌, ℕ, List, length}
use Rattle.std.specs.Prelude.{All, slice_range}
use Rattle.log_tail.specs.Place.{EndsBy}
use Rattle.log_tail.proofs.Scans.{PlacesSoFar}
use Rattle.log_tail.proofs.batches.place_records.Given as goal

abbrev pub invariant-loop-len : goal.invariant-loop-len
invariant-loop-len l = record {
  begun : l.base ≤ l.at;
  size : l.at + length l.rest ≡ l.base + length l.body;
  records : (file : List ℕ) (here : slice_range file l.base (l.base + length l.body) ≡ l.body)
      → PlacesSoFar l.body l.rest l.base (l.base + length l.body) l.at l.initial.places.items l.places.items file here;
  within : All (EndsBy l.base) l.initial.places.items → All (EndsBy l.at) l.places.items;
}

abbrev pub decreases-loop-len : goal.decreases-loop-len
decreases-loop-len l = length l.rest
