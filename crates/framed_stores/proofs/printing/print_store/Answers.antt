use Rattle.std.proofs.Common.{rules}
use Rattle.document_framing.proofs.FeedLemmas.{on_ok}
use Rattle.framed_stores.proofs.PrintLemmas.{prints_slots}
use Rattle.framed_stores.proofs.printing.print_store.Goals as goal

pub returns-clause-printed : goal.returns-clause-printed
returns-clause-printed g c honest =
    on_ok c.give_documents.result _ _
    (λ taken.
    let both = prints_slots (λ s. s.output.ghost_name) (λ s. s.form) (λ s. g.W.Write.contents s.output.now) _ _ _ taken in
    let name = both.0 in
    let printed = both.1 in
    search rules)
    (c.give_documents.ensures.given honest)
