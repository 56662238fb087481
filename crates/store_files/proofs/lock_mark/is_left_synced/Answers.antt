use Rattle.std.proofs.Common.{◌∙◌, sym}
use Rattle.store_files.proofs.lock_mark.is_left_synced.Goals as goal

pub returns-clause-trusted : goal.returns-clause-trusted
returns-clause-trusted g c = λ h is.
    let so = c.in_ok-found.ensures.so h (c.requires.so h) in
    let known = sym (c.in_ok-mark.ensures.files c.args.name.now) ∙ c.is_synced.ensures.0 is in
    so.trusted c.args.name.now (λ none. let no : ⊥ = cc in no)

pub returns-clause-durable : goal.returns-clause-durable
returns-clause-durable g c = λ h is bytes holds.
    let so = c.in_ok-found.ensures.so h (c.requires.so h) in
    so.synced c.args.name.now bytes (sym (c.in_ok-mark.ensures.files c.args.name.now) ∙ c.is_synced.ensures.0 is) holds
