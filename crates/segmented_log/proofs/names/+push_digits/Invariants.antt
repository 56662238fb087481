use Rattle.segmented_log.proofs.names.+push_digits.Given as goal

-- one digit is written by each call
abbrev pub decreases-push_digits : goal.decreases-push_digits
decreases-push_digits l = l.width
