use Rattle.std.proofs.Common.{◌<◌, List, [], ◌∷◌, ◌++◌, length, take, sym, ap, ◌∙◌, arith, append_assoc, length-append}
use Rattle.std.proofs.lemmas.List.{length-set, map-append, take_more_set}
use Rattle.layered_index.specs.declared.checkpoint.Checkpoint.{Checkpoint}
use Rattle.layered_index.specs.Rows.{end_of, ends_in, ends_of}
use Rattle.layered_index.proofs.OutlineLemmas.{after_stay}
use Rattle.layered_index.proofs.outline.fill.Goals as goal

pub loop-checkpoint-preserved : goal.loop-checkpoint-preserved
loop-checkpoint-preserved c =
    let l = c.loop-checkpoint in
    let done = l.invariant.0 in
    let next = c.in-Some.checkpoint in
    let rows = l.invariant.3 in
    let room : l.count < length l.rows = omega (arith, l.auto.rows, l.invariant.5, c.if-count-rows.false) in (
      done ++ next ∷ [],
      append_assoc done (next ∷ []) c.next.new.self ∙ ap (λ (xs : List Checkpoint). done ++ xs) (sym c.in-Some.ensures.steps) ∙ l.invariant.1,
      omega (arith, length-append done (next ∷ []), l.invariant.2),
      ap ends_in (take_more_set l.rows l.count c.new.result room) ∙ map-append end_of (take l.count l.rows) (c.new.result ∷ [])
          ∙ (λ i. rows i ++ end_of (c.new.ensures i) ∷ []) ∙ sym (map-append ends_of done (next ∷ [])),
      after_stay l.count l.rows c.args.rows.now c.new.result l.invariant.4,
      omega (arith, room, length-set l.rows l.count c.new.result),
    )

pub returns-then-count-rows-clause-filled : goal.returns-then-count-rows-clause-filled
returns-then-count-rows-clause-filled c few =
    let l = c.loop-checkpoint in
    absurd (omega (arith, few, l.auto.rows, c.if-count-rows.true, ap length l.invariant.1, ap length c.in-Some.ensures.steps, length-append l.invariant.0 l.checkpoint-iterator, l.invariant.2))
