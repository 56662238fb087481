use Rattle.std.proofs.Common.{◌∙◌, ap, refl}
use Rattle.std.specs.Prelude.{is_none}
use Rattle.store_commands.proofs.CountLemmas.{sound_if, broken_if}
use Rattle.store_commands.proofs.checking.fault_in.Goals as goal

pub returns-in_err-position-clause-sound : goal.returns-in_err-position-clause-sound
returns-in_err-position-clause-sound c =
    ap is_none c.from_residual.ensures ∙ sound_if c.args.block.now c.args.documents c.in_default.ensures.sound (c.in_err-position.ensures.whole refl)

pub returns-clause-sound : goal.returns-clause-sound
returns-clause-sound c = broken_if c.args.block.now c.args.documents c.in_ok-position.position c.in_ok-position.ensures.within c.in_ok-position.ensures.damaged
