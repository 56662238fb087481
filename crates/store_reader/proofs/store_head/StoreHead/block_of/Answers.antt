use Rattle.std.proofs.Common.{ℕ, ◌≡◌, ◌≤◌, ◌<◌, None, refl, sym, ◌∙◌}
use Rattle.store_base.specs.declared.error.StoreError.TheVariants.{InvalidArgument}
use Rattle.layered_index.specs.Checkpoint.{first_past}
use Rattle.store_format.specs.StoreFile.{checkpoints_of}
use Rattle.store_reader.specs.StoreSlices.{IsBlockSlice}
use Rattle.store_reader.proofs.StoreSliceLemmas.{err_not_ok, ok_is, ok_matches}
use Rattle.store_reader.proofs.StoreOutlineLemmas.{sought_by}
use Rattle.store_reader.proofs.store_head.StoreHead.block_of.Goals as goal

pub returns-in_err-lower-clause-block : goal.returns-in_err-lower-clause-block
returns-in_err-lower-clause-block c s is = absurd (c.in_err-lower.ensures.answer s c.args.rows.now is)

pub returns-in_err-checkpoint-clause-block : goal.returns-in_err-checkpoint-clause-block
returns-in_err-checkpoint-clause-block c s is =
    absurd (err_not_ok _ _ (sought_by _ s _ c.args.doc_id _ _ _ is (c.in_ok-lower.ensures.answer s c.args.rows.now is) c.in_err-checkpoint.ensures.answer))

pub returns-in_default-clause-block : goal.returns-in_default-clause-block
returns-in_default-clause-block c s is =
    let found = ok_is _ _ (sought_by _ s _ c.args.doc_id _ _ _ is (c.in_ok-lower.ensures.answer s c.args.rows.now is) c.in_ok-checkpoint.ensures.answer) in
    (refl, sym found ∙ c.in_default.is)

pub returns-clause-block : goal.returns-clause-block
returns-clause-block c s is =
    let found = ok_is _ _ (sought_by _ s _ c.args.doc_id _ _ _ is (c.in_ok-lower.ensures.answer s c.args.rows.now is) c.in_ok-checkpoint.ensures.answer) in
    ok_matches c.found_block.result (λ b. (id : ℕ) → b.first ≤ id → id < b.end → IsBlockSlice _ s id b.first b.end b.start b.bytes.now)
    (λ e. (e ≡ InvalidArgument c.args.doc_id) × (first_past (checkpoints_of s.blocks) c.args.doc_id ≡ None)) (c.found_block.ensures.block s is.data_is (sym found ∙ c.in-Some.is))
