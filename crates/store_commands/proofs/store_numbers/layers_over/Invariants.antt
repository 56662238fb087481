use Rattle.std.proofs.Common.{◌≡◌, ◌+◌}
use Rattle.layered_index.specs.Layers.{digit_count}
use Rattle.store_commands.proofs.store_numbers.layers_over.Given as goal

-- the digits so far and those of what is left are those of the number
abbrev pub invariant-loop-entries : goal.invariant-loop-entries
invariant-loop-entries l = l.layers + digit_count l.period l.entries ≡ digit_count l.period l.blocks

abbrev pub decreases-loop-entries : goal.decreases-loop-entries
decreases-loop-entries l = l.entries
