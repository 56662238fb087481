use Rattle.layered_index.proofs.LowerLemmas.{answer_is}
use Rattle.layered_index.proofs.index_slice.IndexSlice.seek_counted.Goals as goal

pub returns-in_err-descend-clause-answer : goal.returns-in_err-descend-clause-answer
returns-in_err-descend-clause-answer c cs is = absurd (c.in_err-descend.ensures.answer cs is.0 (c.whole.ensures.whole cs is).0 (c.whole.ensures.whole cs is).1)

pub returns-clause-answer : goal.returns-clause-answer
returns-clause-answer c cs is = answer_is _ _ (c.in_ok-descend.ensures.answer cs is.0 (c.whole.ensures.whole cs is).0 (c.whole.ensures.whole cs is).1)
