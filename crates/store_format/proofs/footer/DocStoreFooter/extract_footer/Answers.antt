use Rattle.store_format.proofs.FooterHandedLemmas.{footer_handed}
use Rattle.store_format.proofs.footer.DocStoreFooter.extract_footer.Goals as goal

pub returns-in-Err-clause-given_back : goal.returns-in-Err-clause-given_back
returns-in-Err-clause-given_back g c = footer_handed _ _ _ c.in-Err.ensures
