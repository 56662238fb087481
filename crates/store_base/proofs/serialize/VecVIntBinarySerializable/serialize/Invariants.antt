use Rattle.std.proofs.Common.{◌≡◌, ◌≤◌, ◌^◌, ◌++◌, length, map, take}
use Rattle.std.specs.List.{flat_map, AllByRecursion}
use Rattle.store_base.specs.Reading.{IsBelow}
use Rattle.store_base.specs.VInt.{number}
use Rattle.store_base.specs.Numbers.{values}
use Rattle.store_base.proofs.serialize.VecVIntBinarySerializable.serialize.Given as goal

-- the count and the values so far are written
abbrev pub invariant-loop-value : goal.invariant-loop-value
invariant-loop-value g l =
    let output = g.W.TerminatingWrite in
    record {
      content : output.content l.output ≡ output.content l.fn.output ++ number (length (values l.self)) ++ flat_map number (map (λ v. v.0) (take l.value-index l.value-items));
      termination : output.termination l.output ≡ output.termination l.fn.output;
      count : output.failures l.fn.output ≤ output.failures l.output;
      below : AllByRecursion (IsBelow (2 ^ 64)) (map (λ v. v.0) (take l.value-index l.value-items));
    }
