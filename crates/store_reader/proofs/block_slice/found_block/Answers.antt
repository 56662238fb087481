use Rattle.std.proofs.Common.{sym, arith}
use Rattle.store_reader.proofs.StoreSliceLemmas.{block_fits, block_stored}
use Rattle.store_reader.proofs.block_slice.found_block.Goals as goal
use Rattle.store_reader.proofs.block_slice.found_block.Goals.{then-doc_id-docs-via-then-doc_id-docs, then-doc_id-docs-via-else-doc_id-docs+then-data_len-bytes}

pub returns-then-doc_id-docs-clause-block : goal.returns-then-doc_id-docs-clause-block
returns-then-doc_id-docs-clause-block c s is seeks =
    let fits = block_fits _ s c.args.doc_id _ c.args.checkpoint is seeks in
    elim c.then-doc_id-docs.branch [
      | then-doc_id-docs-via-then-doc_id-docs w ↦ absurd (omega (arith, w.if-doc_id-docs.true, fits.0))
      | then-doc_id-docs-via-else-doc_id-docs+then-data_len-bytes w ↦ absurd (omega (arith, w.if-data_len-bytes.true, fits.1))
    ]

pub returns-clause-block : goal.returns-clause-block
returns-clause-block c s is seeks id from to = block_stored _ s c.args.doc_id c.args.checkpoint c.part.result.now (sym seeks) c.part.ensures id from to
