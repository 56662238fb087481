use Rattle.std.proofs.Common.{sym, subst}
use Rattle.segmented_log.specs.Log.{IsLog}
use Rattle.framed_logs.proofs.read_log.ReadLog.get.Goals as goal

pub returns-in-Some-clause-found : goal.returns-in-Some-clause-found
returns-in-Some-clause-found g c honest first all is =
    let seen = subst (λ f. IsLog first all (g.F.Folder.seen f)) (sym c.loop.invariant.0) is in
    rw c.in-Some.is at (c.in_ok-found.ensures.found honest first all seen)
