use Rattle.std.proofs.Common.{◌≡◌, take}
use Rattle.main_theorem.proofs.index.inserted.Given as goal

-- the checkpoints before this one were inserted
abbrev pub invariant-loop-i : goal.invariant-loop-i
invariant-loop-i l = l.index ≡ record { period = l.period; checkpoints = take l.i l.block }
