use Rattle.std.proofs.Common.{sym, subst}
use Rattle.segmented_log.specs.Log.{IsLog}
use Rattle.framed_logs.specs.Reading.{Reads}
use Rattle.framed_logs.proofs.read_log.ReadLog.open.Goals as goal

pub invariant_of-result : goal.invariant_of-result
invariant_of-result g c honest =
    let log = c.in_ok-log.log in
    subst (λ l. Reads (g.F.Folder.seen c.args.folder.value) l.first l.slots c.end-end.result) (sym c.in-Ok.ensures.ok) (record {
      log = subst (λ f. IsLog log.first log.slots (g.F.Folder.seen f)) c.deref.ensures (c.in_ok-log.ensures honest);
      end_is = c.end-end.ensures honest;
    })
