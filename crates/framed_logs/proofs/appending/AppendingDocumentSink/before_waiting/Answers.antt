use Rattle.std.proofs.lemmas.Result.{on_err_weaker}
use Rattle.store_folder.specs.Moments.{LeavesOnly}
use Rattle.framed_logs.proofs.AppendLemmas.{sync_failed}
use Rattle.framed_logs.proofs.FeedLemmas.{on_err_when}
use Rattle.framed_logs.proofs.appending.AppendingDocumentSink.before_waiting.Goals as goal

pub returns-clause-failed : goal.returns-clause-failed
returns-clause-failed g c = on_err_weaker c.sync_if.result (λ failed. (
  c.sync_if.ensures.policy,
  λ honest. sync_failed (LeavesOnly g.F.Folder.moment g.F.Folder.left_since) c.args.self.now.policy c.args.self.now.log.value
      c.sync_if.new.self.log.value c.args.self.now.numbers c.sync_if.new.self.numbers (failed honest),
)) (on_err_when c.sync_if.result _ _ c.sync_if.ensures.failed)
