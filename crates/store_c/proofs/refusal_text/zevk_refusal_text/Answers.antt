use Rattle.std.proofs.Common.{refl, ◌∙◌}
use Rattle.store_c.proofs.TextLemmas.{ended}
use Rattle.store_c.proofs.refusal_text.zevk_refusal_text.Goals as goal

pub returns-then-words-text-clause-written : goal.returns-then-words-text-clause-written
returns-then-words-text-clause-written c room =
    let same = c.as_bytes-words.ensures.value ∙ c.text_of.ensures.text in
    rw (c.copy_from_slice.ensures.after, ← same) (ended _ _ _ refl room)
