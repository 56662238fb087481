use Rattle.segmented_log.proofs.UniqueLemmas.{not_blank}
use Rattle.segmented_log.proofs.laws.blank_folders_are_no_log.Goals as goal

pub returns : goal.returns
returns c = λ l first all blank log. not_blank l first all log blank
