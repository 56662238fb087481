use Rattle.std.proofs.Common.{rules, ◌≡◌, Some}
use Rattle.segmented_log.specs.Names.{tail_name}
use Rattle.segmented_log.proofs.loading.load_tail.Goals as goal

pub returns-in-Some-clause-damaged : goal.returns-in-Some-clause-damaged
returns-in-Some-clause-damaged g c = λ h is.
    let there : g.F.Folder.seen c.args.folder.now tail_name ≡ Some c.in-Some.bytes.items = search rules in
    (c.in-Some.bytes.items, there, c.repair_tail.ensures.damaged is)
