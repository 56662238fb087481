use Rattle.std.proofs.Common.{sym, ◌∙◌, subst}
use Rattle.store_c.proofs.GettingLemmas.{counted, uncounted}
use Rattle.store_c.specs.Getting.{RefusesUnopened}
use Rattle.store_c.proofs.FirstRefusalLemmas.{head_first, no_index_in}
use Rattle.store_c.proofs.getting.zevk_num_docs.Goals as goal

pub returns-in-Ok-num_docs-clause-done : goal.returns-in-Ok-num_docs-clause-done
returns-in-Ok-num_docs-clause-done c done = counted c.in-Ok.store c.args.file.now c.in-Ok-num_docs.docs c.in-Ok.ensures.ok c.in-Ok-num_docs.ensures.count

pub returns-in-Err-num_docs-clause-refused : goal.returns-in-Err-num_docs-clause-refused
returns-in-Err-num_docs-clause-refused c some =
    subst (RefusesUnopened c.args.file.now) (sym c.number-in-Err-num_docs.ensures)
    (uncounted c.in-Ok.store c.args.file.now c.in-Err-num_docs.error c.in-Ok.ensures.ok c.in-Err-num_docs.ensures.refused c.in-Err-num_docs.ensures.count)

pub returns-in-Ok-num_docs-clause-head : goal.returns-in-Ok-num_docs-clause-head
returns-in-Ok-num_docs-clause-head c number head = absurd (no_index_in _ c.args.file.now number head c.in-Ok.ensures.index)

pub returns-in-Err-num_docs-clause-head : goal.returns-in-Err-num_docs-clause-head
returns-in-Err-num_docs-clause-head c number head = absurd (no_index_in _ c.args.file.now number head c.in-Ok.ensures.index)

pub returns-in-Err-clause-head : goal.returns-in-Err-clause-head
returns-in-Err-clause-head c number head = c.number.ensures ∙ head_first c.args.file.now number c.in-Err.error head c.in-Err.ensures.found c.in-Err.ensures.causes
