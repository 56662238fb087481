use Rattle.std.proofs.Common.{◌+◌, ◌-◌, ◌∙◌, sym, subst, arith}
use Rattle.segmented_log.specs.Log.{IsLog}
use Rattle.framed_logs.proofs.ReadLemmas.{prints_next}
use Rattle.framed_logs.proofs.printing.print_records.Goals as goal

pub loop-number-preserved : goal.loop-number-preserved
loop-number-preserved g c =
    let number = c.loop-number.number in let from = c.args.from in
    let given = c.loop-number.invariant in let printed = c.in_ok-print_record.ensures in
    let low = c.loop-number.auto.number in (
      printed.folder ∙ given.0,
      printed.end ∙ given.1,
      λ none. omega arith,
      λ honest first all is. prints_next c.args.form first all from number (number - from) (number + 1 - from)
          (g.W.Write.contents c.args.output.now) (g.W.Write.contents c.loop-number.output) (g.W.Write.contents c.print_record.new.output)
          (omega arith) (omega arith) (given.3 honest first all is)
          (printed.printed honest first all (subst (λ f. IsLog first all (g.F.Folder.seen f)) (sym given.0) is)),
    )
