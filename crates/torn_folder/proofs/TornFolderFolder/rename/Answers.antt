use Rattle.std.proofs.Common.{reverse}
use Rattle.torn_folder.proofs.Steps.{moved_crash}
use Rattle.torn_folder.proofs.TornFolderFolder.rename.Goals as goal

pub returns-in-Ok-Ok-clause-crash : goal.returns-in-Ok-Ok-clause-crash
returns-in-Ok-Ok-clause-crash c = λ h.
    moved_crash c.in-Ok-Ok.from c.in-Ok-Ok.to c.args.from.now c.args.to.now (reverse c.args.self.now.events.items) (reverse c.note.new.self.events.items)
    c.in-Ok-Ok.ensures.ok c.in-Ok-Ok.ensures'.ok c.note.ensures.either
