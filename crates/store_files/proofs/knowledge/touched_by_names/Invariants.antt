use Rattle.std.proofs.Common.{◌≡◌, ℕ, List, take}
use Rattle.std.specs.Prelude.{if◌then◌else◌}
use Rattle.store_files.specs.Knowledge.{untouched, standing_in}
use Rattle.store_files.specs.Mark.{named}
use Rattle.store_files.specs.declared.knowledge.Standing.{Standing}
use Rattle.store_files.specs.declared.knowledge.Standing.TheVariants.{Failed}
use Rattle.store_files.proofs.knowledge.touched_by_names.Given as goal

abbrev pub invariant-loop-name : goal.invariant-loop-name
invariant-loop-name l = (others : Standing) (n : List ℕ) → standing_in others l.touched.items n ≡ (if named (take l.name-index l.names) n then Failed else untouched others n)
