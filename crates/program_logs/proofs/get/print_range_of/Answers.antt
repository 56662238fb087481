use Rattle.std.proofs.Common.{◌≡◌, ◌+◌, ◌-◌, ℕ, OnOk, length, rules}
use Rattle.std.specs.Prelude.{◌&&◌}
use Rattle.framed_logs.specs.Reading.{PrintsRecords}
use Rattle.store_commands.specs.NumberRanges.{is_within, names}
use Rattle.program_logs.proofs.PrintLemmas.{range_shown}
use Rattle.program_logs.proofs.get.print_range_of.Goals as goal

pub returns-clause-printed : goal.returns-clause-printed
returns-clause-printed g c honest first all at =
    let out = g.W.Write.contents in
    let numbers = c.in_ok-numbers.numbers in
    let first_is : c.first.result ≡ first = c.first.ensures.first honest first all at in
    let end_is : c.end.result ≡ first + length all = c.end.ensures.end honest first all at in
    let are : (k : ℕ) → is_within numbers k ≡ (names c.first.result c.args.range k && is_within (record { start = c.first.result; end = c.end.result }) k) =
    search rules in
    let printed : OnOk c.print_records.result
    (PrintsRecords c.args.form first all numbers.start (numbers.end - numbers.start) (out c.args.output.now) (out c.print_records.new.output)) =
    c.print_records.ensures.printed honest first all at in
    let here : PrintsRecords c.args.form first all numbers.start (numbers.end - numbers.start) (out c.args.output.now) (out c.print_records.new.output) =
    search rules in
    range_shown c.args.form first all c.args.range numbers c.first.result c.end.result _ _ first_is end_is are here
