use Rattle.std.proofs.Common.{List, ap, string_bytes}
use Rattle.system_model.specs.declared.content.Step.{Step}
use Rattle.system_model.specs.System.{MemDisk, are_made, made_by, synced_by}
use Rattle.system_model.proofs.System.{blank_is_so}
use Rattle.system_model.proofs.mem_system.MemSystem.new.Goals as goal

pub returns-clause-so : goal.returns-clause-so
returns-clause-so c =
    let system : MemDisk = record {
      folder = string_bytes c.in_ok-from_str.field-0;
      changes = made_by c.new-2.result.items;
      others = synced_by c.new-3.result.items;
      mark = c.blank.result;
    } in
    blank_is_so system c.blank.ensures (ap (λ (steps : List Step). are_made (made_by steps)) c.new-2.ensures.items)
