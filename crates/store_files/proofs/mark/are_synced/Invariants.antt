use Rattle.std.proofs.Common.{◌≡◌, false, take}
use Rattle.std.specs.Prelude.{All, string_bytes, String}
use Rattle.std.specs.declared.alloc.Global.{Global}
use Rattle.store_files.specs.Knowledge.{is_part, said}
use Rattle.store_files.specs.declared.knowledge.Standing.TheVariants.{Synced}
use Rattle.store_files.proofs.mark.are_synced.Given as goal

abbrev pub invariant-loop-name : goal.invariant-loop-name
invariant-loop-name l = All (λ (name : String Global). is_part (string_bytes name) ≡ false → said l.knowledge (string_bytes name) ≡ Synced) (take l.name-index l.names)
