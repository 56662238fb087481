use Rattle.std.proofs.Common.{◌≡◌, drop}
use Rattle.store_files.specs.Mark.{named}
use Rattle.store_files.proofs.mark.has_name.Given as goal

abbrev pub invariant-loop-known : goal.invariant-loop-known
invariant-loop-known l = named (drop l.known-index l.names) l.name ≡ named l.names l.name
