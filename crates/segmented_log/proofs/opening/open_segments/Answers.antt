use Rattle.std.proofs.Common.{[], ◌∷◌, ◌++◌, map, sym, ◌∙◌, ap}
use Rattle.std.specs.Prelude.{IsTrue}
use Rattle.std.proofs.lemmas.List.{map_push, take_more}
use Rattle.std.proofs.lemmas.List.Elements.{All-push, All-same}
use Rattle.segmented_log.specs.Parts.{part_of}
use Rattle.segmented_log.specs.Log.{HasSegment}
use Rattle.segmented_log.proofs.CauseLemmas.{ok_alone}
use Rattle.segmented_log.specs.declared.error.LogError.TheVariants.{NoLog}
use Rattle.segmented_log.proofs.opening.open_segments.Goals as goal

pub loop-number-preserved : goal.loop-number-preserved
loop-number-preserved g c =
    let seen = g.F.Folder.seen c.args.folder.now in
    let old = c.loop-number.segments.items in
    let segment = c.in_ok-open_segment.field-0 in
    let new = c.push.new.self.items in
    let items = c.in_ok-push.ensures.items in (
      ap (λ l. map (λ x. x.first) l) items ∙ map_push (λ x. x.first) old segment ∙ (λ j. c.loop-number.invariant.0 j ++ c.in_ok-open_segment.ensures.first j ∷ [])
          ∙ sym (take_more c.args.numbers.now c.loop-number.number-index 0 c.loop-number-test.true),
      λ h. All-same (λ x. HasSegment seen (part_of x.first x.reader)) new (old ++ segment ∷ []) items
          (All-push (λ x. HasSegment seen (part_of x.first x.reader)) old segment (c.loop-number.invariant.1 h) (c.in_ok-open_segment.ensures.found h)),
      λ h. All-same (λ x. IsTrue x.reader.file.honest) new (old ++ segment ∷ []) items
          (All-push (λ x. IsTrue x.reader.file.honest) old segment (c.loop-number.invariant.2 h) (c.in_ok-open_segment.ensures.honest h)),
    )

pub returns-clause-no_log : goal.returns-clause-no_log
returns-clause-no_log g c = λ h is. absurd (ok_alone NoLog _ is)
