use Rattle.std.proofs.Common.{◌≡◌}
use Rattle.layered_index.specs.Rows.{ends_in}
use Rattle.layered_index.proofs.row_guide.write_guides.Given as goal

-- the blocks still end where they did
abbrev pub invariant-loop-stretch : goal.invariant-loop-stretch
invariant-loop-stretch l = ends_in l.rows ≡ ends_in l.fn.rows
