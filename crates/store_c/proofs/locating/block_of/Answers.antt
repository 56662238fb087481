use Rattle.std.proofs.Common.{arith}
use Rattle.store_c.proofs.TableViewLemmas.{sought, block_within, block_ends, has_none, table_block}
use Rattle.store_c.proofs.locating.block_of.Goals.{then-doc_id-checkpoint-via-then-doc_id-checkpoint, then-doc_id-checkpoint-via-else-doc_id-checkpoint+then-checkpoint-doc_id}
use Rattle.store_c.proofs.locating.block_of.Goals.{then-checkpoint-via-then-checkpoint, then-checkpoint-via-else-checkpoint+then-file-checkpoint}
use Rattle.store_c.proofs.locating.block_of.Goals as goal

pub returns-in_default-clause-block : goal.returns-in_default-clause-block
returns-in_default-clause-block c known = has_none _ known.store _ (sought _ _ _ _ c.in_default.ensures.answer known)

pub returns-clause-block : goal.returns-clause-block
returns-clause-block c = table_block _ _ c.args.doc_id c.in-Some.checkpoint (omega arith) (omega arith) (sought _ _ _ _ c.in-Some.ensures.answer)

pub returns-then-doc_id-checkpoint-clause-block : goal.returns-then-doc_id-checkpoint-clause-block
returns-then-doc_id-checkpoint-clause-block c known =
    let w = block_within _ known.store _ _ (sought _ _ _ _ c.in-Some.ensures.answer known) in
    let from = w.from in
    let to = w.to in
    elim c.then-doc_id-checkpoint.branch [
      | then-doc_id-checkpoint-via-then-doc_id-checkpoint w ↦ omega (arith, w.if-doc_id-checkpoint)
      | then-doc_id-checkpoint-via-else-doc_id-checkpoint+then-checkpoint-doc_id w ↦ omega (arith, w.if-checkpoint-doc_id)
    ]

pub returns-then-checkpoint-clause-block : goal.returns-then-checkpoint-clause-block
returns-then-checkpoint-clause-block c known =
    let seeks = sought _ _ _ _ c.in-Some.ensures.answer known in
    let order = (block_within _ known.store _ _ seeks).order in
    let end = block_ends _ known.store _ _ seeks in
    elim c.then-checkpoint.branch [
      | then-checkpoint-via-then-checkpoint w ↦ omega (arith, w.if-checkpoint)
      | then-checkpoint-via-else-checkpoint+then-file-checkpoint w ↦ omega (arith, w.if-file-checkpoint)
    ]
