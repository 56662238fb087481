use Rattle.store_c.proofs.CheckingLemmas.{HasGoneTo}
use Rattle.store_c.proofs.checking.first_damaged.Given as goal

abbrev pub invariant-loop-document : goal.invariant-loop-document
invariant-loop-document l = HasGoneTo l.store l.document-iterator
