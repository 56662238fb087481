use Rattle.std.proofs.Common.{◌≡◌, ◌++◌, true, length, take}
use Rattle.std.specs.List.{flat_map, list_all}
use Rattle.std.specs.Prelude.{◌≤◌, vec_capacity}
use Rattle.store_base.specs.VInt.{number}
use Rattle.store_base.specs.Record.{fields_seen, field_bytes, is_writable}
use Rattle.store_base.proofs.record.push_record.Given as goal

-- the count and the fields so far are written, and each of them has a text
abbrev pub invariant-loop-field : goal.invariant-loop-field
invariant-loop-field l = record {
  written : l.out.items ≡ l.fn.out.items ++ number (length l.fields) ++ flat_map field_bytes (fields_seen (take l.field-index l.fields));
  room : vec_capacity l.fn.out ≤ vec_capacity l.out;
  fit : list_all (is_writable l.schema) (fields_seen (take l.field-index l.fields)) ≡ true;
}
