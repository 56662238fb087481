use Rattle.std.proofs.Common.{◌+◌, ◌≤◌, length-set, arith, ◌∙◌}
use Rattle.layered_index.specs.Checkpoint.{docs_end}
use Rattle.store_format.specs.StoreFile.{checkpoints_of}
use Rattle.store_c.proofs.TableViewLemmas.{has_past}
use Rattle.store_c.proofs.PlacesLemmas.{one_more, after_stay}
use Rattle.store_c.proofs.locating.places_from.Goals as goal

pub loop-at-preserved : goal.loop-at-preserved
loop-at-preserved c =
    let l = c.loop-at in
    let kept = l.invariant in
    let lt = c.loop-at-test.true in
    let room = c.min-room.ensures in
    let from = c.in-Ok.ensures.from in
    record {
      are = one_more _ _ _ _ _ _ (omega (arith, kept.size)) kept.are (c.in-Ok-place_in.ensures c.args.table.now c.in-Ok.ensures.block);
      rest = after_stay l.at l.places c.args.places.now c.in-Ok-place_in.found kept.rest;
      size = length-set _ _ _ ∙ kept.size;
      from = omega arith;
      held = c.in-Ok.ensures.block;
    }

pub returns-then-room-places-clause-next : goal.returns-then-room-places-clause-next
returns-then-room-places-clause-next c =
    let room = c.min-room.ensures in
    let left = c.saturating_sub-left.ensures in
    let few = c.if-room-places.true in
    let size = c.loop-at.invariant.size in (
      omega arith,
      λ known.
          let count = c.docs_of.ensures (checkpoints_of known.store.blocks) known.rows in
          let past : docs_end 0 (checkpoints_of known.store.blocks) ≤ c.args.first + c.min-room.result = omega arith in
          has_past c.args.file.now known.store _ past,
    )
