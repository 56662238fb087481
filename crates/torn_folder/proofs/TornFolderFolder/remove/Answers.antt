use Rattle.std.proofs.Common.{reverse}
use Rattle.torn_folder.proofs.Steps.{removed_crash}
use Rattle.torn_folder.proofs.TornFolderFolder.remove.Goals as goal

pub returns-in-Ok-clause-crash : goal.returns-in-Ok-clause-crash
returns-in-Ok-clause-crash c = λ h.
    removed_crash c.in-Ok.name c.args.name.now (reverse c.args.self.now.events.items) (reverse c.note.new.self.events.items) c.in-Ok.ensures.ok c.note.ensures.either
