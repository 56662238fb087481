use Rattle.document_framing.proofs.FeedLemmas.{on_ok}
use Rattle.program_stores.proofs.GivenLemmas.{on_ok_under}
use Rattle.program_stores.proofs.MergedLemmas.{brought}
use Rattle.program_stores.proofs.merge.StoreFilesFilling.fill.Goals as goal

pub returns-clause-brought : goal.returns-clause-brought
returns-clause-brought g c =
    let added = rw c.replace-inputs.ensures.value at c.merge_inputs.ensures.added in
    on_ok_under c.merge_inputs.result _ _
    (λ honest. on_ok c.merge_inputs.result _ _ (brought _ c.args.writer.now c.merge_inputs.new.writer c.requires.new) (added honest))
