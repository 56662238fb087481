use Rattle.std.proofs.Common.{◌+◌, List, [], ◌∷◌, ◌++◌, length, take, sym, ap, ◌∙◌, arith, append_assoc, length-append, length-set}
use Rattle.std.proofs.lemmas.List.{map-append, map-set, length-map, take_more_set}
use Rattle.layered_index.specs.declared.checkpoint.Checkpoint.{Checkpoint}
use Rattle.layered_index.specs.declared.row.RowEnd.{RowEnd}
use Rattle.layered_index.specs.Rows.{end_of, ends_in}
use Rattle.store_c.specs.Writing.{ends_after}
use Rattle.store_c.proofs.StackLemmas.{limits_of}
use Rattle.store_c.proofs.stacking.fill.Goals as goal

pub overflow_add-checkpoint : goal.overflow_add-checkpoint
overflow_add-checkpoint c =
    let within = limits_of c.args.start.end_doc c.args.start.end_byte c.loop-checkpoint.invariant.0 c.next.new.self _ c.in-Some.checkpoint
    (ap (λ (xs : List Checkpoint). c.loop-checkpoint.invariant.0 ++ xs) (sym c.in-Some.ensures.steps) ∙ c.loop-checkpoint.invariant.1) c.requires.in_line in
    let end = within.doc_end in omega arith

pub overflow_add-checkpoint-in-loop-checkpoint : goal.overflow_add-checkpoint-in-loop-checkpoint
overflow_add-checkpoint-in-loop-checkpoint c =
    let within = limits_of c.args.start.end_doc c.args.start.end_byte c.loop-checkpoint.invariant.0 c.next.new.self _ c.in-Some.checkpoint
    (ap (λ (xs : List Checkpoint). c.loop-checkpoint.invariant.0 ++ xs) (sym c.in-Some.ensures.steps) ∙ c.loop-checkpoint.invariant.1) c.requires.in_line in
    let end = within.byte_end in omega arith

pub loop-checkpoint-preserved : goal.loop-checkpoint-preserved
loop-checkpoint-preserved c =
    let done = c.loop-checkpoint.invariant.0 in
    let at = c.loop-checkpoint.count in
    let rows = c.loop-checkpoint.table in
    let count = c.loop-checkpoint.invariant.2 in
    let size = c.loop-checkpoint.invariant.4 in
    let next = c.in-Some.checkpoint in
    let following : Checkpoint → RowEnd = ends_after c.args.start in
    let grown = length-append done (next ∷ []) in
    let room = length-append (done ++ next ∷ []) c.next.new.self in
    let parts = append_assoc done (next ∷ []) c.next.new.self ∙ ap (λ (xs : List Checkpoint). done ++ xs) (sym c.in-Some.ensures.steps) ∙ c.loop-checkpoint.invariant.1 in (
      done ++ next ∷ [],
      parts,
      omega (arith, grown),
      ap (take (at + 1)) (map-set end_of rows at c.new.result)
          ∙ take_more_set (ends_in rows) at (end_of c.new.result) (omega (arith, room, grown, length-map rows end_of, size, c.requires.room, ap length parts))
          ∙ (λ i. c.loop-checkpoint.invariant.3 i ++ end_of (c.new.ensures i) ∷ [])
          ∙ sym (map-append following done (next ∷ [])),
      length-set rows at c.new.result ∙ size,
    )
