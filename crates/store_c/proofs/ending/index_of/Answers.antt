use Rattle.std.proofs.Common.{sym}
use Rattle.layered_index.proofs.LineLemmas.{ends_in_line}
use Rattle.docstore.proofs.PendingLemmas.{from_ok}
use Rattle.store_c.proofs.EndLemmas.{one_more_end, none_more}
use Rattle.store_c.proofs.ending.index_of.Goals as goal

pub returns-in_default-clause-refused : goal.returns-in_default-clause-refused
returns-in_default-clause-refused c =
    none_more c.args.ends.now c.loop-row.row-index _ c.loop-row.index.checkpoints c.loop-row.start c.end-end.result c.loop-row-test.true c.loop-row.invariant.1 c.loop-row.invariant.2
    c.end-end.ensures c.in_default.ensures

pub insert-requires : goal.insert-requires
insert-requires c =
    let more = one_more_end c.args.ends.now c.loop-row.row-index _ c.loop-row.index.checkpoints c.loop-row.start c.end-end.result c.in-Some.checkpoint c.loop-row-test.true c.loop-row.invariant.1
    c.loop-row.invariant.2 c.end-end.ensures c.in-Some.ensures.0 c.in-Some.ensures.1 in
    ends_in_line _ _ _ more.1

pub loop-row-preserved : goal.loop-row-preserved
loop-row-preserved c =
    let more = one_more_end c.args.ends.now c.loop-row.row-index _ c.loop-row.index.checkpoints c.loop-row.start c.end-end.result c.in-Some.checkpoint c.loop-row-test.true c.loop-row.invariant.1
    c.loop-row.invariant.2 c.end-end.ensures c.in-Some.ensures.0 c.in-Some.ensures.1 in
    let is = from_ok c.insert.result (sym c.if-is_err.ensures.value) c.insert.ensures.ok in
    rw is (c.loop-row.invariant.0, more.0, more.1)
