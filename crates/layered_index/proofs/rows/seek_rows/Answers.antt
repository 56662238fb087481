use Rattle.std.proofs.Common.{sym, ◌∙◌, arith}
use Rattle.layered_index.proofs.RowSeekLemmas.{first_of}
use Rattle.layered_index.proofs.rows.seek_rows.Goals as goal

pub returns-then-target-checkpoint-clause-answer : goal.returns-then-target-checkpoint-clause-answer
returns-then-target-checkpoint-clause-answer c cs is line =
    sym (first_of 0 0 cs c.args.target c.guess-near.result c.in-Some.checkpoint line (sym (c.in-Some.ensures cs is line)) (omega arith) (omega arith))

pub returns-clause-answer : goal.returns-clause-answer
returns-clause-answer c cs is line = c.row_at-2.ensures cs is line ∙ c.seek_near-found.ensures.answer cs is line
