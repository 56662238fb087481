use Rattle.program_base.proofs.StoreLemmas.{whole_is_store}
use Rattle.program_base.proofs.store_file.StorePath.file.Goals as goal

pub returns-in-Ok-None-2-clause-content : goal.returns-in-Ok-None-2-clause-content
returns-in-Ok-None-2-clause-content g c honest d n path =
    whole_is_store c.in_ok-file.file c.store_end.new.file _ c.args.self.now.is_tantivy _ c.in-Ok-None.ensures.end c.in-Ok-None.field-0-is
    (c.in_ok-file.ensures.honest honest) (c.in_ok-file.ensures.content honest d n path) c.if-self.false
