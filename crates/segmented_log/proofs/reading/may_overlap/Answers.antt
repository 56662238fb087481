use Rattle.std.proofs.Common.{◌++◌, ◌∷◌, [], map, take, sym, ◌∙◌, ap}
use Rattle.std.proofs.lemmas.List.{map_more}
use Rattle.segmented_log.specs.Parts.{part_of}
use Rattle.segmented_log.proofs.StepLemmas.{next_more, end_more}
use Rattle.segmented_log.proofs.reading.may_overlap.Goals as goal

pub loop-segment-preserved : goal.loop-segment-preserved
loop-segment-preserved g c =
    let i = c.loop-segment.segment-index in
    let x = c.segment-item.result in
    let p = part_of x.first x.reader in
    let parts = map (λ s. part_of s.first s.reader) (take i c.args.segments.now) in
    let more_is = map_more (λ s. part_of s.first s.reader) c.args.segments.now i x c.loop-segment-test.true ∙ ap (λ y. parts ++ part_of y.first y.reader ∷ []) (sym c.segment-item.is) in
    record {
      next = next_more c.args.first parts _ p more_is c.loop-segment.invariant.next (sym c.from.ensures ∙ c.if-from-end.false ∙ c.loop-segment.invariant.end);
      end = c.end_of_segment-end.ensures ∙ sym (end_more c.args.first parts _ p more_is);
    }
