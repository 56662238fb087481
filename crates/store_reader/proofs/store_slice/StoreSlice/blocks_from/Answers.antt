use Rattle.std.proofs.Common.{◌≡◌, ℕ, List, length, Option, Some, None, refl, sym, ap, ◌∙◌, subst}
use Rattle.std.specs.Option.{option_map}
use Rattle.layered_index.specs.declared.checkpoint.Checkpoint.{Checkpoint}
use Rattle.layered_index.specs.Checkpoint.{first_past}
use Rattle.layered_index.specs.Sought.{past_on}
use Rattle.layered_index.proofs.RestOfLayerLemmas.{first_is_on}
use Rattle.store_format.specs.StoreFile.{checkpoints_of, data_of}
use Rattle.store_reader.specs.Opening.{IsSomeStore}
use Rattle.store_reader.proofs.StoreSliceLemmas.{seen_laid, stored_index}
use Rattle.store_reader.proofs.BlocksLeftLemmas.{left_from}
use Rattle.store_reader.proofs.store_slice.StoreSlice.blocks_from.Goals as goal

pub returns-in_err-checkpoint-clause-block : goal.returns-in_err-checkpoint-clause-block
returns-in_err-checkpoint-clause-block c s =
    let laid_out = seen_laid _ _ _ _ _ c.self.view_is c.self.invariant in
    absurd (c.in_err-checkpoint.ensures.answer (checkpoints_of s.blocks) (stored_index _ _ _ _ s (laid_out s)))

pub returns-in_default-clause-block : goal.returns-in_default-clause-block
returns-in_default-clause-block c s =
    let laid_out = seen_laid _ _ _ _ _ c.self.view_is c.self.invariant in
    let found = c.in_ok-checkpoint.ensures.answer (checkpoints_of s.blocks) (stored_index _ _ _ _ s (laid_out s)) in
    let none : first_past (checkpoints_of s.blocks) c.args.doc_id ≡ None = first_is_on (checkpoints_of s.blocks) c.args.doc_id
    ∙ ap (λ (o : Option (Checkpoint × List Checkpoint)). option_map (λ x. x.0) o) (sym found ∙ c.in_default.is) in
    (refl, none)

-- the checkpoint that the index gave is the first past the document
sought : (file : List ℕ) (s : IsSomeStore file) (id : ℕ) (c : Checkpoint) (cs : List Checkpoint) (given : Option (Checkpoint × List Checkpoint)) → given ≡ past_on (checkpoints_of s.blocks) id
    → given ≡ Some (c, cs) → first_past (checkpoints_of s.blocks) id ≡ Some c
sought file s id c cs given found is = first_is_on (checkpoints_of s.blocks) id ∙ ap (λ (o : Option (Checkpoint × List Checkpoint)). option_map (λ x. x.0) o) (sym found ∙ is)

pub returns-in_err-block-clause-block : goal.returns-in_err-block-clause-block
returns-in_err-block-clause-block c s =
    let laid_out = seen_laid _ _ _ _ _ c.self.view_is c.self.invariant in
    let found = c.in_ok-checkpoint.ensures.answer (checkpoints_of s.blocks) (stored_index _ _ _ _ s (laid_out s)) in
    let refused = subst (λ (b : List ℕ). (t : IsSomeStore b) → c.self.inside.data_len ≡ length (data_of t.blocks) → first_past (checkpoints_of t.blocks) c.args.doc_id ≡ Some c.in-Some.checkpoint → ⊥)
    c.self.view_is c.in_err-block.ensures.block in
    absurd (refused s (laid_out s).data_is (sought _ s c.args.doc_id c.in-Some.checkpoint _ _ found c.in-Some.is))

pub returns-clause-block : goal.returns-clause-block
returns-clause-block c s id from to =
    let laid_out = seen_laid _ _ _ _ _ c.self.view_is c.self.invariant in
    let found = c.in_ok-checkpoint.ensures.answer (checkpoints_of s.blocks) (stored_index _ _ _ _ s (laid_out s)) in
    (rw c.self.view_is at c.in_ok-block.ensures.block) s (laid_out s).data_is (sought _ s c.args.doc_id c.in-Some.checkpoint _ _ found c.in-Some.is) id from to

pub returns-clause-left : goal.returns-clause-left
returns-clause-left c s =
    let laid_out = seen_laid _ _ _ _ _ c.self.view_is c.self.invariant in
    let laid = laid_out s in
    let found = c.in_ok-checkpoint.ensures.answer (checkpoints_of s.blocks) (stored_index _ _ _ _ s laid) in
    let e = c.new-blocks.ensures in
    left_from _ s c.args.doc_id c.in-Some.checkpoint c.new-blocks.result (ap (λ (cs : List Checkpoint). Some (c.in-Some.checkpoint, cs)) e.checkpoints ∙ sym c.in-Some.is ∙ found)
    (e.next ∙ c.in_ok-block.ensures.docs_end) (e.bytes ∙ c.self.view_is)
    (e.data_len ∙ laid.data_is) e.well
