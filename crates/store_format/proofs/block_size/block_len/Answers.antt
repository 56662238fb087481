use Rattle.std.proofs.Common.{arith}
use Rattle.store_format.proofs.BlockLemmas.{length-block}
use Rattle.store_format.proofs.block_size.block_len.Goals as goal

pub returns-in_err-len-clause-block : goal.returns-in_err-len-clause-block
returns-in_err-len-clause-block c docs bytes table = rw c.from_residual.ensures (omega (arith, length-block docs))

pub returns-then-len-lt-BLOCK_LIMIT-clause-block : goal.returns-then-len-lt-BLOCK_LIMIT-clause-block
returns-then-len-lt-BLOCK_LIMIT-clause-block c docs bytes table = omega (arith, length-block docs, c.in_ok-len.ensures)

pub returns-else-len-lt-BLOCK_LIMIT-clause-block : goal.returns-else-len-lt-BLOCK_LIMIT-clause-block
returns-else-len-lt-BLOCK_LIMIT-clause-block c docs bytes table = omega (arith, length-block docs, c.in_ok-len.ensures)
