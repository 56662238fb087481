use Rattle.std.proofs.Common.{◌≡◌, ◌-◌}
use Rattle.layered_index.specs.Sought.{after_numbers}
use Rattle.layered_index.proofs.index_slice.pass_numbers.Given as goal

abbrev pub invariant-loop : goal.invariant-loop
invariant-loop l = after_numbers (l.count - l.counter) l.rest ≡ after_numbers l.count l.bytes
