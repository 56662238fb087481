use Rattle.std.proofs.Common.{ℕ, List, inr, ap, ◌∙◌, subst}
use Rattle.store_base.specs.Outcome.{number_of}
use Rattle.store_reader.specs.Opening.{IsSomeStore}
use Rattle.store_c.proofs.FirstRefusalLemmas.{head_first, no_index_in}
use Rattle.store_c.proofs.outlining.zevk_outline.Goals as goal

pub returns-in-Err-clause-head : goal.returns-in-Err-clause-head
returns-in-Err-clause-head c number head = c.number.ensures ∙ head_first c.args.file.now number c.in-Err.error head c.in-Err.ensures.found c.in-Err.ensures.causes

pub returns-in-Ok-outline-clause-done : goal.returns-in-Ok-outline-clause-done
returns-in-Ok-outline-clause-done c done = rw c.in-Ok.ensures.ok at c.in-Ok-outline.ensures.store

pub returns-in-Ok-outline-clause-deepest : goal.returns-in-Ok-outline-clause-deepest
returns-in-Ok-outline-clause-deepest c done = rw c.in-Ok.ensures.ok at c.in-Ok-outline.ensures.deepest

pub returns-in-Ok-outline-clause-head : goal.returns-in-Ok-outline-clause-head
returns-in-Ok-outline-clause-head c number head = absurd (no_index_in _ c.args.file.now number head c.in-Ok.ensures.index)

pub returns-in-Err-outline-clause-refused : goal.returns-in-Err-outline-clause-refused
returns-in-Err-outline-clause-refused c some = inr (
  c.number-in-Err-outline.ensures ∙ ap number_of c.in-Err-outline.ensures.refused.0,
  subst (λ (b : List ℕ). IsSomeStore b → ⊥) c.in-Ok.ensures.ok c.in-Err-outline.ensures.store,
)

pub returns-in-Err-outline-clause-head : goal.returns-in-Err-outline-clause-head
returns-in-Err-outline-clause-head c number head = absurd (no_index_in _ c.args.file.now number head c.in-Ok.ensures.index)
