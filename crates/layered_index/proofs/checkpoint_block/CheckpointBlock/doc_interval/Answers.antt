use Rattle.std.proofs.Common.{◌≡◌, ◌-◌, List, length, slice_get, sym, ◌∙◌, ap}
use Rattle.layered_index.specs.declared.checkpoint.Checkpoint.{Checkpoint}
use Rattle.layered_index.proofs.BlockLemmas.{interval_is}
use Rattle.layered_index.proofs.checkpoint_block.CheckpointBlock.doc_interval.Goals as goal

pub returns : goal.returns
returns c =
    let at_first : c.deref.result.now ≡ c.args.self.now = c.deref.ensures.value ∙ c.self.view_is in
    let at_last : c.deref-2.result.now ≡ c.args.self.now = c.deref-2.ensures.value ∙ c.self.view_is in
    sym (interval_is c.args.self.now c.in_ok-first.first.now c.in_ok-last.last.now
    (sym (c.in_ok-first.ensures.value ∙ ap (λ (xs : List Checkpoint). slice_get xs 0) at_first))
    (sym (c.in_ok-last.ensures.value ∙ ap (λ (xs : List Checkpoint). slice_get xs (length xs - 1)) at_last)))
