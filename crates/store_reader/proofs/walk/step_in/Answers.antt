use Rattle.store_reader.proofs.WalkingLemmas.{looks_one}
use Rattle.store_reader.proofs.walk.step_in.Goals as goal

pub returns-clause-looks : goal.returns-clause-looks
returns-clause-looks g c = looks_one _ _ _ _ _ _ _ c.enter_next.ensures.taken.0 c.enter_next.ensures.taken.1 c.enter_next.ensures.taken.2 c.enter_next.ensures.taken.3 c.enter_next.ensures.place
