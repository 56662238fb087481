use Rattle.std.proofs.Common.{arith}
use Rattle.store_base.specs.ReadingLemmas.{bytes_from}
use Rattle.layered_index.proofs.DeserializeLemmas.{front_is}
use Rattle.layered_index.proofs.run_reading.first_block.Goals as goal

pub returns : goal.returns
returns c = front_is _ c.args.bytes.now c.block_front.result (bytes_from c.args.bytes.now (λ i. omega (arith, c.type_inv.bytes i))) (omega arith) c.block_front.ensures
