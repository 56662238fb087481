use Rattle.framed_logs.specs.Steps.{adds_none}
use Rattle.framed_logs.proofs.appending.Appending.sync_if.Goals as goal

pub returns-in-false-clause-kept : goal.returns-in-false-clause-kept
returns-in-false-clause-kept g c _ = adds_none c.args.self.now.policy c.args.self.now.log.value c.args.self.now.numbers
