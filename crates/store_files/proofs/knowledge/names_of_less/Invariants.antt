use Rattle.std.proofs.Common.{◌≡◌, ◌≤◌, ℕ, List, drop, false}
use Rattle.store_files.specs.Knowledge.{is_part, rank, standing_in}
use Rattle.store_files.specs.Mark.{named}
use Rattle.store_files.proofs.knowledge.names_of_less.Given as goal

abbrev pub invariant-loop-file : goal.invariant-loop-file
invariant-loop-file l = (n : List ℕ) → is_part n ≡ false → named l.names.items n ≡ false
    → rank l.others ≤ rank (standing_in l.others (drop l.file-index l.touched) n) → rank l.others ≤ rank (standing_in l.others l.touched n)
