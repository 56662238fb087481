use Rattle.std.proofs.Common.{◌≡◌, ◌-◌}
use Rattle.store_base.specs.Record.{fields_seen, spelling_of, fields_at}
use Rattle.store_base.proofs.RecordLoops.{with_front}
use Rattle.store_base.proofs.record.read_fields.Given as goal

-- what was read and what is still read are all
abbrev pub invariant-loop : goal.invariant-loop
invariant-loop l = with_front (fields_seen l.fields.items) (fields_at (spelling_of l.version) (l.count - l.counter) l.rest) ≡ fields_at (spelling_of l.version) l.count l.bytes
