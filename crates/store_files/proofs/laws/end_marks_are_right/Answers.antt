use Rattle.store_files.proofs.ByteLemmas.{marks_are_one}
use Rattle.store_files.proofs.laws.end_marks_are_right.Goals as goal

pub returns : goal.returns
returns c = marks_are_one
