use Rattle.std.proofs.Common.{◌≡◌, true, take}
use Rattle.store_files.specs.Mark.{IsBlank}
use Rattle.system_model.specs.System.{are_made, made_by}
use Rattle.system_model.proofs.mem_system.MemSystem.again.Given as goal

abbrev pub invariant-loop-step : goal.invariant-loop-step
invariant-loop-step l = record {
  folder : l.system.folder ≡ l.self.folder;
  mark : IsBlank l.system.mark;
  possible : are_made l.system.changes ≡ true;
  made : l.system.changes ≡ made_by (take l.step-index l.step-items);
  all : made_by l.step-items ≡ l.self.changes;
}
