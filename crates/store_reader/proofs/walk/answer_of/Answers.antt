use Rattle.std.proofs.Common.{refl}
use Rattle.store_reader.proofs.WalkingLemmas.{taken_some}
use Rattle.store_reader.proofs.walk.answer_of.Goals as goal

pub returns-in-Ok : goal.returns-in-Ok
returns-in-Ok c = rw (taken_some c.args.walk.now.place c.args.walk.now.block c.requires.block) (rw c.in-Ok.is c.document_in.ensures)

pub returns-in-Err : goal.returns-in-Err
returns-in-Err c = rw (taken_some c.args.walk.now.place c.args.walk.now.block c.requires.block) (rw c.in-Err.is refl)
