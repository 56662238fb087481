use Rattle.layered_index.proofs.RunLemmas.{limits_at}
use Rattle.layered_index.proofs.checkpoint_block.write_checkpoints.Goals as goal

pub overflow_sub-docs : goal.overflow_sub-docs
overflow_sub-docs c = (limits_at _ _ _ c.requires c.loop-checkpoint-test.true).doc_order

pub overflow_sub-bytes : goal.overflow_sub-bytes
overflow_sub-bytes c = (limits_at _ _ _ c.requires c.loop-checkpoint-test.true).byte_order
