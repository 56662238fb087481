use Rattle.std.proofs.Common.{◌≡◌, ◌++◌, ◌∷◌, [], drop}
use Rattle.store_files.specs.Mark.{texts, fields}
use Rattle.store_files.proofs.mark.push_names.Given as goal

abbrev pub invariant-loop-name : goal.invariant-loop-name
invariant-loop-name l = l.bytes.items ++ fields (texts (drop l.name-index l.names)) (0 ∷ []) ≡ l.initial.bytes.items ++ fields (texts l.names) (0 ∷ [])
