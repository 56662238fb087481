use Rattle.std.proofs.Common.{◌≡◌, Some, refl, sym, ◌∙◌, arith}
use Rattle.layered_index.specs.Checkpoint.{first_past}
use Rattle.store_format.specs.StoreFile.{checkpoints_of}
use Rattle.store_reader.proofs.StoreSliceLemmas.{stored_index, block_fits, err_not_ok, ok_is}
use Rattle.store_reader.proofs.StoreTailLemmas.{seen_tail}
use Rattle.store_reader.proofs.store_tail.StoreTail.block_of.Goals as goal
use Rattle.store_reader.proofs.store_tail.StoreTail.block_of.Goals.{then-doc_id-checkpoint-via-then-doc_id-checkpoint, then-doc_id-checkpoint-via-else-doc_id-checkpoint+then-self-checkpoint}

pub returns-in_err-checkpoint-clause-block : goal.returns-in_err-checkpoint-clause-block
returns-in_err-checkpoint-clause-block c file t s =
    let laid = (seen_tail _ _ _ _ _ _ c.self.view_is c.self.invariant).laid_out file t s in
    absurd (err_not_ok _ _ (c.in_err-checkpoint.ensures.answer (checkpoints_of s.blocks) (stored_index _ _ _ _ s laid)))

pub returns-in_default-clause-block : goal.returns-in_default-clause-block
returns-in_default-clause-block c file t s =
    let laid = (seen_tail _ _ _ _ _ _ c.self.view_is c.self.invariant).laid_out file t s in
    let found = ok_is _ _ (c.in_ok-checkpoint.ensures.answer (checkpoints_of s.blocks) (stored_index _ _ _ _ s laid)) in
    (refl, sym found ∙ c.in_default.is)

pub returns-then-doc_id-checkpoint-clause-block : goal.returns-then-doc_id-checkpoint-clause-block
returns-then-doc_id-checkpoint-clause-block c file t s =
    let laid = (seen_tail _ _ _ _ _ _ c.self.view_is c.self.invariant).laid_out file t s in
    let found = ok_is _ _ (c.in_ok-checkpoint.ensures.answer (checkpoints_of s.blocks) (stored_index _ _ _ _ s laid)) in
    let seeks : first_past (checkpoints_of s.blocks) c.args.doc_id ≡ Some c.in-Some.checkpoint = sym found ∙ c.in-Some.is in
    let fits = block_fits _ s c.args.doc_id _ c.in-Some.checkpoint laid.data_is seeks in
    elim c.then-doc_id-checkpoint.branch [
      | then-doc_id-checkpoint-via-then-doc_id-checkpoint w ↦ absurd (omega (arith, w.if-doc_id-checkpoint.true, fits.0))
      | then-doc_id-checkpoint-via-else-doc_id-checkpoint+then-self-checkpoint w ↦ absurd (omega (arith, w.if-self-checkpoint.true, fits.1))
    ]

pub returns-clause-block : goal.returns-clause-block
returns-clause-block c file t s =
    let laid = (seen_tail _ _ _ _ _ _ c.self.view_is c.self.invariant).laid_out file t s in
    let found = ok_is _ _ (c.in_ok-checkpoint.ensures.answer (checkpoints_of s.blocks) (stored_index _ _ _ _ s laid)) in
    sym found ∙ c.in-Some.is
