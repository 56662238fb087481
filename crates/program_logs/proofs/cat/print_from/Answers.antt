use Rattle.std.proofs.Common.{◌≡◌, ◌+◌, ◌-◌, OnOk, length, max, rules}
use Rattle.framed_logs.specs.Reading.{PrintsRecords}
use Rattle.program_logs.proofs.PrintLemmas.{records_kept, same_records}
use Rattle.program_logs.proofs.cat.print_from.Goals as goal

pub returns-clause-printed : goal.returns-clause-printed
returns-clause-printed g c honest first all at =
    let out = g.W.Write.contents in
    let first_is : c.first-first.result ≡ first = c.first-first.ensures.first honest first all at in
    let end_is : c.end-end.result ≡ first + length all = c.end-end.ensures.end honest first all at in
    let start_is : c.max.result ≡ max c.args.from first = search rules in
    let printed : OnOk c.print_records.result
    (PrintsRecords c.args.form first all c.max.result (c.end-end.result - c.max.result) (out c.args.output.now) (out c.print_records.new.output)) =
    c.print_records.ensures.printed honest first all at in
    let here : PrintsRecords c.args.form first all c.max.result (c.end-end.result - c.max.result) (out c.args.output.now) (out c.print_records.new.output) =
    search rules in
    same_records c.args.form first all _ _ _ _ _ _ start_is end_is (records_kept c.args.form first all _ _ _ _ _ here c.flush.ensures.bytes)

pub returns-clause-next : goal.returns-clause-next
returns-clause-next g c honest first all at =
    let end_is : c.end-end.result ≡ first + length all = c.end-end.ensures.end honest first all at in
    search rules
