use Rattle.std.proofs.Common.{rules, ◌≡◌, ◌≤◌, ◌∙◌, length, take, reverse, arith}
use Rattle.std.proofs.lemmas.List.{take_all}
use Rattle.torn_folder.proofs.Steps.{appended_file, appended_seen, appended_crash, unless_failing}
use Rattle.std.proofs.lemmas.Result.{on_ok_weaker}
use Rattle.torn_folder.proofs.TornFolderFolder.append.Goals as goal

pub returns-in-Ok-Ok-clause-appended : goal.returns-in-Ok-Ok-clause-appended
returns-in-Ok-Ok-clause-appended c = λ h.
    unless_failing c.note.result c.is_failing-fails.result _ c.note.ensures.fails (λ no.
    let written = c.written-count.result in
    let front : c.in-Ok-Ok.bytes.items ≡ take written c.args.bytes.now = search rules in
    let same = front ∙ take_all written c.args.bytes.now (omega (arith, c.written-count.ensures.all no)) in
    on_ok_weaker c.note.result
    (appended_seen c.in-Ok-Ok.name c.in-Ok-Ok.bytes c.args.name.now c.args.bytes.now (reverse c.args.self.now.events.items) (reverse c.note.new.self.events.items) c.in-Ok-Ok.ensures.ok same)
    c.note.ensures.noted)

pub returns-in-Ok-Ok-clause-file : goal.returns-in-Ok-Ok-clause-file
returns-in-Ok-Ok-clause-file c = λ h.
    let long : length c.in-Ok-Ok.bytes.items ≤ length c.args.bytes.now = search rules in
    appended_file c.in-Ok-Ok.name c.in-Ok-Ok.bytes (length c.args.bytes.now) c.args.name.now (reverse c.args.self.now.events.items) (reverse c.note.new.self.events.items)
    c.in-Ok-Ok.ensures.ok long c.note.ensures.either (c.requires h)

pub returns-in-Ok-Ok-clause-crash : goal.returns-in-Ok-Ok-clause-crash
returns-in-Ok-Ok-clause-crash c = λ h.
    appended_crash c.in-Ok-Ok.name c.in-Ok-Ok.bytes c.args.name.now (reverse c.args.self.now.events.items) (reverse c.note.new.self.events.items)
    c.in-Ok-Ok.ensures.ok c.note.ensures.either
