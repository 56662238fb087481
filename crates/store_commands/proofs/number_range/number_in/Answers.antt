use Rattle.std.proofs.Common.{◌∙◌}
use Rattle.store_commands.proofs.RangeWordLemmas.{number_parsed}
use Rattle.store_commands.proofs.number_range.number_in.Goals as goal

pub returns : goal.returns
returns c = c.ok.ensures.value ∙ number_parsed c.args.text.now c.parse.result c.parse.ensures.value.0
