use Rattle.std.proofs.Common.{◌≡◌, drop, map, string_bytes}
use Rattle.segmented_log.specs.Names.{is_among}
use Rattle.segmented_log.proofs.repairing.has_name.Given as goal

abbrev pub invariant-loop-known : goal.invariant-loop-known
invariant-loop-known l = is_among (map string_bytes (drop l.known-index l.names)) (string_bytes l.name) ≡ is_among (map string_bytes l.names) (string_bytes l.name)
