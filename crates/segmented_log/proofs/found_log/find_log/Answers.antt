use Rattle.std.proofs.Common.{map, string_bytes, sym, subst}
use Rattle.store_folder.specs.Folder.{AreNames}
use Rattle.segmented_log.proofs.FoundLemmas.{one_look}
use Rattle.segmented_log.proofs.found_log.find_log.Goals as goal

pub returns-clause-names : goal.returns-clause-names
returns-clause-names g c = λ h.
    subst (λ l. AreNames l (map string_bytes c.in_ok-names.names.items)) (sym (one_look _ _ (c.in_ok-is_kept.ensures.seen h))) (c.in_ok-names.ensures.names h)

pub returns-clause-seen : goal.returns-clause-seen
returns-clause-seen g c = λ h. one_look _ _ (c.in_ok-is_kept.ensures.seen h)
