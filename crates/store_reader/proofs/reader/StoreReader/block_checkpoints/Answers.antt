use Rattle.store_reader.proofs.ReaderStoreLemmas.{store_seen}
use Rattle.store_reader.proofs.reader.StoreReader.block_checkpoints.Goals as goal

pub returns-clause-store : goal.returns-clause-store
returns-clause-store g c =
    let seen = store_seen c.self.inside.file.content c.self.inside.index.checkpoints c.self.invariant.covers in
    rw (← c.self.view_is) (record { blocks = seen.blocks; checkpoints_are = seen.checkpoints_are; data_is = seen.data_is })
