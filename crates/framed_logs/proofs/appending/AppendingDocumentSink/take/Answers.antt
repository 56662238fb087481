use Rattle.std.proofs.Common.{◌∙◌}
use Rattle.std.proofs.lemmas.Result.{on_err_weaker, on_ok_weaker}
use Rattle.store_folder.specs.Moments.{LeavesOnly}
use Rattle.framed_logs.proofs.AppendLemmas.{put_failed, sync_failed, took}
use Rattle.framed_logs.proofs.FeedLemmas.{on_err_when, on_ok_when}
use Rattle.framed_logs.proofs.PrintLemmas.{on_err}
use Rattle.framed_logs.proofs.appending.AppendingDocumentSink.take.Goals as goal

pub returns-in_err-sync_if-clause-failed : goal.returns-in_err-sync_if-clause-failed
returns-in_err-sync_if-clause-failed g c = on_err c.from_residual.result _ (
  c.in_err-sync_if.ensures.policy,
  λ honest. sync_failed (LeavesOnly g.F.Folder.moment g.F.Folder.left_since) c.args.self.now.policy c.args.self.now.log.value
      c.sync_if.new.self.log.value c.args.self.now.numbers c.sync_if.new.self.numbers (c.in_err-sync_if.ensures.failed honest),
)

pub returns-clause-taken : goal.returns-clause-taken
returns-clause-taken g c =
    let old = c.args.self.now in let first = c.sync_if.new.self in let second = c.put.new.self in let new = c.sync_if-2.new.self in
    let put = c.in_ok-put.ensures in
    on_ok_weaker c.sync_if-2.result (λ kept. (
      c.sync_if-2.ensures.policy ∙ put.policy ∙ c.in_ok-sync_if.ensures.policy,
      λ honest. took old.policy first.policy second.policy old.log.value first.log.value second.log.value new.log.value
          old.numbers first.numbers second.numbers new.numbers c.args.document.now c.in_ok-sync_if.ensures.policy put.policy
          (c.in_ok-sync_if.ensures.kept honest) put.commit put.first put.slots put.works put.pending put.numbers (kept honest),
    )) (on_ok_when c.sync_if-2.result _ _ c.sync_if-2.ensures.kept)

pub returns-clause-failed : goal.returns-clause-failed
returns-clause-failed g c =
    let old = c.args.self.now in let first = c.sync_if.new.self in let second = c.put.new.self in let new = c.sync_if-2.new.self in
    let put = c.in_ok-put.ensures in
    on_err_weaker c.sync_if-2.result (λ failed. (
      c.sync_if-2.ensures.policy ∙ put.policy ∙ c.in_ok-sync_if.ensures.policy,
      λ honest. put_failed (LeavesOnly g.F.Folder.moment g.F.Folder.left_since) old.policy old.log.value first.log.value second.log.value new.log.value
          old.numbers first.numbers second.numbers new.numbers c.args.document.now
          (c.in_ok-sync_if.ensures.kept honest) put.commit put.first put.slots put.works put.pending put.numbers (failed honest),
    )) (on_err_when c.sync_if-2.result _ _ c.sync_if-2.ensures.failed)
