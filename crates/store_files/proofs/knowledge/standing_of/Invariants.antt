use Rattle.std.proofs.Common.{◌≡◌, drop}
use Rattle.store_files.specs.Knowledge.{standing_in}
use Rattle.store_files.proofs.knowledge.standing_of.Given as goal

-- what is left says what all say
abbrev pub invariant-loop-file : goal.invariant-loop-file
invariant-loop-file l = standing_in l.others (drop l.file-index l.touched) l.name ≡ standing_in l.others l.touched l.name
