use Rattle.std.proofs.Common.{map, take, string_bytes}
use Rattle.store_folder.specs.Folder.{AreNamesAmong}
use Rattle.store_folder.specs.Changes.{look_of}
use Rattle.store_folder.proofs.NamesLemmas.{names_of}
use Rattle.store_folder.proofs.memory.names_in.Given as goal

abbrev pub invariant-loop-change : goal.invariant-loop-change
invariant-loop-change l = AreNamesAmong (look_of l.changes) (names_of (take l.change-index l.changes)) (map string_bytes l.names.items)
