use Rattle.std.proofs.lemmas.Result.{err_from_is_err_and}
use Rattle.layered_index.proofs.RefusalLemmas.{refused}
use Rattle.layered_index.proofs.checkpoint_block.CheckpointBlock.deserialize.Goals as goal

pub returns-in_err-checkpoints-clause-refused : goal.returns-in_err-checkpoints-clause-refused
returns-in_err-checkpoints-clause-refused c =
    let p = err_from_is_err_and c.from_residual.result c.from_residual.ensures.1 in
    rw (p.1, p.2) (refused _ c.in_err-checkpoints.field-0.0 c.in_err-checkpoints.ensures)

pub invariant_of-self : goal.invariant_of-self
invariant_of-self c = c.in_ok-checkpoints.ensures.0
