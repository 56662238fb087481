use Rattle.store_format.proofs.ExtractionLemmas.{whole_footer}
use Rattle.store_format.proofs.footer_reading.footer_in.Goals as goal

pub returns-in-Ok-clause-says : goal.returns-in-Ok-clause-says
returns-in-Ok-clause-says c = whole_footer c.args.bytes.now c.in-Ok.footer _ c.requires c.in-Ok.ensures
