use Rattle.std.proofs.Common.{◌+◌, List, arith, ap, ◌∙◌, get_or}
use Rattle.store_commands.specs.declared.left_out.IdSpan.{IdSpan}
use Rattle.store_commands.specs.LeftOut.{is_among}
use Rattle.store_commands.proofs.SpanLemmas.{merging_first, merging_touch, merging_apart, merging_apart_all, merging_all, place_following}
use Rattle.store_commands.proofs.left_out.merged.Goals as goal
use Rattle.store_commands.proofs.left_out.merged.Goals.{then-span-last, else-span-last+in_ok-push}

pub loop-span-init : goal.loop-span-init
loop-span-init c =
    rw c.new-merged.ensures.items (merging_first c.args.spans.now c.in-Some.first.now c.in-Some.others.now c.in-Some.ensures.cases.0 c.requires.filled c.requires.sorted)

pub loop-span-preserved : goal.loop-span-preserved
loop-span-preserved c =
    let place = c.loop-span.span-index in
    let none : IdSpan = record { start = 0; end = 0 } in
    let x = get_or c.in-Some.others.now place none in
    let here = place_following c.args.spans.now c.in-Some.first.now c.in-Some.others.now place none c.in-Some.ensures.cases.0 c.loop-span-test.true in
    elim c.if-span-last.branch [
      | then-span-last w ↦ rw (w.merged-is, w.last-is, w.max.ensures)
          (merging_touch c.args.spans.now c.loop-span.merged.items c.loop-span.last x (place + 1) c.loop-span.invariant here.0 here.1 w.if-span-last.true)
      | else-span-last+in_ok-push w ↦ rw (w.merged-is, w.last-is, w.in_ok-push.ensures.items)
          (merging_apart c.args.spans.now c.loop-span.merged.items c.loop-span.last x (place + 1) c.loop-span.invariant here.0 here.1 w.if-span-last.false c.requires.filled c.requires.sorted)
    ]

pub returns-clause-apart : goal.returns-clause-apart
returns-clause-apart c = rw c.in_ok-push-2.ensures.items (merging_apart_all c.args.spans.now c.loop-span.merged.items c.loop-span.last (c.loop-span.span-index + 1) c.loop-span.invariant)

pub returns-clause-same : goal.returns-clause-same
returns-clause-same c id =
    ap (λ (xs : List IdSpan). is_among xs id) c.in_ok-push-2.ensures.items
    ∙ merging_all c.args.spans.now c.loop-span.merged.items c.loop-span.last (c.loop-span.span-index + 1) c.loop-span.invariant (omega (arith, c.in-Some.ensures.cases.1, c.loop-span-test.false)) id
