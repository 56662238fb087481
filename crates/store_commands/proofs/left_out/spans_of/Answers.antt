use Rattle.std.proofs.lemmas.Result.{err_from_is_err_and}
use Rattle.store_commands.proofs.PartLemmas.{word_refuses}
use Rattle.store_commands.proofs.left_out.spans_of.Goals as goal

pub returns-in_err-add_spans-clause-refused : goal.returns-in_err-add_spans-clause-refused
returns-in_err-add_spans-clause-refused c =
    let p = err_from_is_err_and c.from_residual.result c.from_residual.ensures.1 in
    rw (p.1, p.2) (word_refuses c.args.num_docs c.args.words.now c.loop-word.word-index _ c.in_err-add_spans.field-0.0 c.loop-word-test.true c.in_err-add_spans.ensures.refused)
