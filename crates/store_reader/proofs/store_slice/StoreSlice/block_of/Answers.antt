use Rattle.std.proofs.Common.{ℕ, ◌≡◌, ◌≤◌, ◌<◌, None, refl, sym, ◌∙◌}
use Rattle.store_base.specs.declared.error.StoreError.TheVariants.{InvalidArgument}
use Rattle.layered_index.specs.Checkpoint.{first_past}
use Rattle.store_format.specs.StoreFile.{checkpoints_of}
use Rattle.store_reader.specs.StoreSlices.{IsBlockSlice}
use Rattle.store_reader.proofs.StoreSliceLemmas.{seen_laid, stored_index, err_not_ok, ok_is, ok_matches}
use Rattle.store_reader.proofs.store_slice.StoreSlice.block_of.Goals as goal

pub returns-in_err-checkpoint-clause-block : goal.returns-in_err-checkpoint-clause-block
returns-in_err-checkpoint-clause-block c s =
    let laid_out = seen_laid _ _ _ _ _ c.self.view_is c.self.invariant in
    absurd (err_not_ok _ _ (c.in_err-checkpoint.ensures.answer (checkpoints_of s.blocks) (stored_index _ _ _ _ s (laid_out s))))

pub returns-in_default-clause-block : goal.returns-in_default-clause-block
returns-in_default-clause-block c s =
    let laid_out = seen_laid _ _ _ _ _ c.self.view_is c.self.invariant in
    let found = ok_is _ _ (c.in_ok-checkpoint.ensures.answer (checkpoints_of s.blocks) (stored_index _ _ _ _ s (laid_out s))) in
    (refl, sym found ∙ c.in_default.is)

pub returns-clause-block : goal.returns-clause-block
returns-clause-block c s =
    let laid_out = seen_laid _ _ _ _ _ c.self.view_is c.self.invariant in
    let found = ok_is _ _ (c.in_ok-checkpoint.ensures.answer (checkpoints_of s.blocks) (stored_index _ _ _ _ s (laid_out s))) in
    ok_matches c.found_block.result (λ b. (id : ℕ) → b.first ≤ id → id < b.end → IsBlockSlice _ s id b.first b.end b.start b.bytes.now)
    (λ e. (e ≡ InvalidArgument c.args.doc_id) × (first_past (checkpoints_of s.blocks) c.args.doc_id ≡ None))
    ((rw c.self.view_is at c.found_block.ensures.block) s (laid_out s).data_is (sym found ∙ c.in-Some.is))
