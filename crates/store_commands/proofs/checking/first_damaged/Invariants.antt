use Rattle.store_commands.specs.Blocks.{AreWhole}
use Rattle.store_commands.proofs.checking.first_damaged.Given as goal

-- none so far is damaged
abbrev pub invariant-loop-position : goal.invariant-loop-position
invariant-loop-position l = AreWhole l.block l.position
