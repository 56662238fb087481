use Rattle.store_reader.proofs.DecidedAnswerLemmas.{slots_decide_answers}
use Rattle.store_reader.proofs.laws.slots_decide_answers.Goals as goal

pub returns : goal.returns
returns c = slots_decide_answers
