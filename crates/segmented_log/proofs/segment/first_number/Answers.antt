use Rattle.segmented_log.proofs.OpeningLemmas.{first_found, first_missing}
use Rattle.segmented_log.proofs.segment.first_number.Goals as goal

pub returns-in-Some : goal.returns-in-Some
returns-in-Some g c = first_found _ _ _ _ c.in-Some.ensures.value

pub returns-in-None : goal.returns-in-None
returns-in-None g c = first_missing _ _ _ c.in-None.ensures.value
