use Rattle.store_c.proofs.MemoryLemmas.{begins}
use Rattle.store_c.proofs.writing.zevk_writer_begin.Goals as goal

pub returns : goal.returns
returns c = begins c.args.block_size
