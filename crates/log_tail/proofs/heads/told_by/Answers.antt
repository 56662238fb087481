use Rattle.log_tail.proofs.HeadLemmas.{no_head}
use Rattle.log_tail.proofs.heads.told_by.Goals as goal

pub returns-then-body-ne-HEAD_BODY-clause-value : goal.returns-then-body-ne-HEAD_BODY-clause-value
returns-then-body-ne-HEAD_BODY-clause-value c = no_head c.args.first c.args.place c.args.body.now c.if-body-ne-HEAD_BODY.true
