use Rattle.store_commands.proofs.RangeWordLemmas.{dots_split}
use Rattle.store_commands.proofs.number_range.split_at_dots.Goals as goal

pub returns : goal.returns
returns c = dots_split c.args.word.now c.split_once.result c.split_once.ensures.cases
