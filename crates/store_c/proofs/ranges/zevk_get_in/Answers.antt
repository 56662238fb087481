use Rattle.std.proofs.Common.{sym, ap, ◌∙◌, arith}
use Rattle.std.specs.Prelude.{Err}
use Rattle.store_base.specs.Outcome.{number_of}
use Rattle.store_base.specs.declared.error.StoreError.{StoreError}
use Rattle.store_c.proofs.FirstRefusalLemmas.{place_is_given}
use Rattle.store_c.proofs.GettingLemmas.{is_place}
use Rattle.store_c.proofs.RangeLemmas.{no_other_block}
use Rattle.store_c.proofs.ranges.zevk_get_in.Goals as goal

pub returns-in-Ok-clause-done : goal.returns-in-Ok-clause-done
returns-in-Ok-clause-done c done file held =
    let r = c.in-Ok in
    is_place file c.args.doc_id r.range.start r.range.end _ r.ensures.order r.ensures.within held.within
    (λ s. r.ensures.document file s (held.stored s c.args.doc_id (omega arith) (omega arith)))

pub returns-in-Ok-clause-damaged : goal.returns-in-Ok-clause-damaged
returns-in-Ok-clause-damaged c file held s other =
    let r = c.in-Ok in
    let place = is_place file c.args.doc_id r.range.start r.range.end _ r.ensures.order r.ensures.within held.within
    (λ s. r.ensures.document file s (held.stored s c.args.doc_id (omega arith) (omega arith))) in
    (λ seven. absurd (omega (arith, seven)), λ is. absurd (place_is_given _ _ _ _ place s is))

pub returns-in-Err-clause-damaged : goal.returns-in-Err-clause-damaged
returns-in-Err-clause-damaged c file held s other =
    let e = c.in-Err.ensures in (
      λ _. sym (e.document file s (held.stored s c.args.doc_id (omega arith) (omega arith))) ∙ ap (λ (x : StoreError). Err x) e.refused,
      λ _. omega (arith, ap number_of e.refused),
    )

pub returns-in-Ok-clause-other_block : goal.returns-in-Ok-clause-other_block
returns-in-Ok-clause-other_block c =
    (λ e. absurd (omega (arith, e)), λ other. absurd (no_other_block c.args.at.now c.args.block.now c.args.doc_id (omega arith) (omega arith) (omega arith) (omega arith) other))

pub returns-in-Err-clause-other_block : goal.returns-in-Err-clause-other_block
returns-in-Err-clause-other_block c = (
  λ e. absurd (omega (arith, e, ap number_of c.in-Err.ensures.refused)),
  λ other. absurd (no_other_block c.args.at.now c.args.block.now c.args.doc_id (omega arith) (omega arith) (omega arith) (omega arith) other),
)
