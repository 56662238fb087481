use Rattle.std.proofs.Common.{◌≡◌, ◌-◌, length, take, drop}
use Rattle.log_tail.specs.Heads.{rest_after, rest_of}
use Rattle.std.specs.Prelude.{All}
use Rattle.std.specs.List.{flat_map}
use Rattle.log_tail.specs.Tail.{records_in, bodies_of}
use Rattle.log_tail.specs.Place.{contents, EndsBy}
use Rattle.log_tail.proofs.Tails.{IsReadTo}
use Rattle.log_tail.proofs.batches.find_records.Given as goal

abbrev pub invariant-loop-len : goal.invariant-loop-len
invariant-loop-len l = record {
  read : IsReadTo l.end l.bytes (bodies_of (take l.end l.bytes));
  records : contents l.bytes l.places.items ≡ flat_map records_in (bodies_of (take l.end l.bytes));
  within : All (EndsBy l.end) l.places.items;
  rest : rest_of l.bytes ≡ rest_after 0 (drop l.end l.bytes);
}

abbrev pub decreases-loop-len : goal.decreases-loop-len
decreases-loop-len l = length l.bytes - l.end
