use Rattle.std.proofs.Common.{◌∙◌}
use Rattle.store_commands.proofs.RangeWordLemmas.{alone_none, alone_last, alone_some, no_start, no_end, both_named}
use Rattle.store_commands.proofs.number_range.NumberRange.from_word.Goals as goal

pub returns-in_err-number : goal.returns-in_err-number
returns-in_err-number c = c.from_residual.ensures ∙ alone_none c.args.word.now c.in_default.ensures c.in_err-number.ensures

pub returns-in_err-checked_add : goal.returns-in_err-checked_add
returns-in_err-checked_add c =
    c.from_residual-in_err-checked_add.ensures ∙ alone_last c.args.word.now c.in_ok-number.number c.in_default.ensures c.in_ok-number.ensures c.in_err-checked_add.ensures

pub returns-in_default : goal.returns-in_default
returns-in_default c =
    alone_some c.args.word.now c.in_ok-number.number c.in_ok-checked_add.field-0 c.in_default.ensures c.in_ok-number.ensures c.in_ok-checked_add.ensures.0 c.in_ok-checked_add.ensures.1

pub returns-in_err-start : goal.returns-in_err-start
returns-in_err-start c = c.from_residual-in_err-start.ensures ∙ no_start c.args.word.now c.in-Some.before.now c.in-Some.after.now c.in-Some.ensures c.in_err-start.ensures

pub returns-in_err-end : goal.returns-in_err-end
returns-in_err-end c =
    c.from_residual-in_err-end.ensures ∙ no_end c.args.word.now c.in-Some.before.now c.in-Some.after.now c.in_ok-start.start c.in-Some.ensures c.in_ok-start.ensures c.in_err-end.ensures

pub returns : goal.returns
returns c = both_named c.args.word.now c.in-Some.before.now c.in-Some.after.now c.in_ok-start.start c.in_ok-end.end c.in-Some.ensures c.in_ok-start.ensures c.in_ok-end.ensures
