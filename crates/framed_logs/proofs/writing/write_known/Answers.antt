use Rattle.std.proofs.Common.{sym, take, drop, take-append-drop}
use Rattle.framed_logs.proofs.PrintLemmas.{up_to_more}
use Rattle.framed_logs.proofs.writing.write_known.Goals as goal

pub loop-preserved : goal.loop-preserved
loop-preserved g c =
    let rest = c.loop.rest.now in let count = c.in_ok-count.count in
    rw c.after-rest.ensures (up_to_more _ _ _ c.args.bytes.now rest (take count rest) (drop count rest) c.loop.invariant
    c.in_ok-count.ensures.written (sym (take-append-drop count rest)))
