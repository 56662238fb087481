use Rattle.layered_index.proofs.layers.+digit_count.Given as goal

-- the number itself
abbrev pub decreases-digit_count : goal.decreases-digit_count
decreases-digit_count l = l.n
