use Rattle.std.proofs.Common.{◌++◌, ◌∷◌, [], map, take, sym, ◌∙◌, ap, subst}
use Rattle.std.proofs.lemmas.List.{map_more}
use Rattle.store_merge.specs.Choice.{alive_slots}
use Rattle.store_merge.specs.Merge.{IsHonest}
use Rattle.segmented_log.specs.Parts.{part_of}
use Rattle.segmented_log.specs.Log.{HasSegment}
use Rattle.segmented_log.specs.Compacting.{IsWhole}
use Rattle.segmented_log.proofs.JoinLemmas.{flat_push, all_push, have_push}
use Rattle.segmented_log.proofs.joining.open_inputs.Goals as goal

pub loop-segment-preserved : goal.loop-segment-preserved
loop-segment-preserved g c =
    let seen = g.F.Folder.seen c.args.folder.now in
    let i = c.loop-segment.segment-index in
    let segments = c.args.segments.now in
    let s = c.segment-item.result in
    let old = c.loop-segment.inputs.items in
    let new = c.push.new.self.items in
    let input = c.in_ok-open_input.field-0 in
    let items = c.in_ok-push.ensures.items in (
      λ h all.
          let here : HasSegment seen (part_of s.first s.reader) = subst (λ x. HasSegment seen (part_of x.first x.reader)) (sym c.segment-item.is) (all i s c.loop-segment-test.true) in
          let more = map_more (λ x. part_of x.first x.reader) segments i s c.loop-segment-test.true
          ∙ ap (λ x. map (λ y. part_of y.first y.reader) (take i segments) ++ part_of x.first x.reader ∷ []) (sym c.segment-item.is) in
          flat_push alive_slots old new input items
          ∙ (λ j. c.loop-segment.invariant.0 h all j ++ c.in_ok-open_input.ensures.slots h (part_of s.first s.reader).slots here j)
          ∙ sym (flat_push (λ p. p.slots) (map (λ y. part_of y.first y.reader) (take i segments)) _ (part_of s.first s.reader) more),
      λ h. all_push IsHonest old new input items (c.loop-segment.invariant.1 h) (c.in_ok-open_input.ensures.honest h),
      λ h.
          let more = map_more (λ x. x.first) segments i s c.loop-segment-test.true ∙ ap (λ x. map (λ y. y.first) (take i segments) ++ x.first ∷ []) (sym c.segment-item.is) in
          have_push seen (map (λ y. y.first) (take i segments)) _ s.first old new input more items (c.loop-segment.invariant.2 h) (c.in_ok-open_input.ensures.blocks h),
      all_push IsWhole old new input items c.loop-segment.invariant.3 c.in_ok-open_input.ensures.whole,
    )
