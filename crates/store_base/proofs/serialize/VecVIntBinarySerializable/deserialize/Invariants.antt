use Rattle.std.proofs.Common.{◌≡◌, ◌≤◌, ◌++◌, ◌^◌, length}
use Rattle.std.specs.List.{flat_map, AllByRecursion}
use Rattle.store_base.specs.VInt.{number}
use Rattle.store_base.specs.Reading.{IsBelow}
use Rattle.store_base.specs.Numbers.{values}
use Rattle.store_base.proofs.serialize.VecVIntBinarySerializable.deserialize.Given as goal

-- the values so far and the rest are the input
abbrev pub invariant-loop : goal.invariant-loop
invariant-loop l = record {
  parts : l.fn.bytes.now ≡ number l.count ++ flat_map number (values l.values) ++ l.rest;
  below : AllByRecursion (IsBelow (2 ^ 64)) (values l.values);
  counted : length (values l.values) ≡ l.counter;
  enough : l.count ≤ length (flat_map number (values l.values) ++ l.rest);
}
