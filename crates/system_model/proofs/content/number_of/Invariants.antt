use Rattle.std.proofs.Common.{◌≡◌, None, drop}
use Rattle.system_model.specs.System.{number_in}
use Rattle.system_model.proofs.content.number_of.Given as goal

-- what is left, after what was found, says what all say
abbrev pub invariant-loop-file : goal.invariant-loop-file
invariant-loop-file l = number_in (drop l.file-index l.names) l.name l.found ≡ number_in l.names l.name None
