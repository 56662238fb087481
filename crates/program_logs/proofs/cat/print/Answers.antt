use Rattle.std.proofs.Common.{◌≡◌, ◌∙◌, ◌+◌, ◌-◌, IfOk, OnOk, ap, length, max, subst}
use Rattle.framed_logs.specs.Reading.{PrintsFrom}
use Rattle.program_logs.proofs.PrintLemmas.{same_log}
use Rattle.program_logs.proofs.cat.print.Goals as goal

pub returns-clause-printed : goal.returns-clause-printed
returns-clause-printed g c honest first all at =
    let out = g.W.Write.contents in
    let read = c.deref_mut-read.result.now in
    let same = c.deref_mut-read.ensures.value in
    let here = same_log g.S.SystemFiles.changes g.S.SystemFiles.start first all read.folder.system.value c.args.logs.now read.folder.path c.args.path.now
    (ap (λ r. r.folder.system.value) same ∙ c.in_ok-read.ensures.system) (ap (λ r. r.folder.path) same ∙ c.in_ok-read.ensures.path) at in
    let start_is = c.max-from.ensures ∙ ap (λ n. max c.args.from n) (c.saturating_sub.ensures ∙ ap (λ n. n - c.args.most) (c.end.ensures.end honest first all here)) in
    subst (λ from. OnOk c.print_from.result (PrintsFrom c.args.form first all from (out c.args.output.now) (out c.print_from.new.output))) start_is
    (c.print_from.ensures.printed honest first all here)

pub returns-clause-next : goal.returns-clause-next
returns-clause-next g c honest first all at =
    let read = c.deref_mut-read.result.now in
    let same = c.deref_mut-read.ensures.value in
    let here = same_log g.S.SystemFiles.changes g.S.SystemFiles.start first all read.folder.system.value c.args.logs.now read.folder.path c.args.path.now
    (ap (λ r. r.folder.system.value) same ∙ c.in_ok-read.ensures.system) (ap (λ r. r.folder.path) same ∙ c.in_ok-read.ensures.path) at in
    let start_is = c.max-from.ensures ∙ ap (λ n. max c.args.from n) (c.saturating_sub.ensures ∙ ap (λ n. n - c.args.most) (c.end.ensures.end honest first all here)) in
    subst (λ from. IfOk c.print_from.result (λ next. next ≡ max from (first + length all))) start_is (c.print_from.ensures.next honest first all here)
