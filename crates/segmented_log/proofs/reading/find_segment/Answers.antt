use Rattle.std.proofs.Common.{◌≤◌, inl, inr, subst}
use Rattle.std.proofs.lemmas.Bool.{cases_lt, false≢true}
use Rattle.std.proofs.lemmas.List.Elements.{All-more}
use Rattle.segmented_log.specs.Parts.{part_of, end_of}
use Rattle.segmented_log.proofs.reading.find_segment.Goals as goal

pub loop-i-preserved : goal.loop-i-preserved
loop-i-preserved g c =
    let s = c.index-segments-i.result in
    let ended : end_of (part_of s.first s.reader) ≤ c.args.number = elim (cases_lt c.args.number (end_of (part_of s.first s.reader))) [
      | inl lt ↦ absurd (false≢true (c.if-ends_after.ensures.1 lt))
      | inr le ↦ le
    ] in
    All-more (λ x. end_of (part_of x.first x.reader) ≤ c.args.number) c.args.segments.now c.loop-i.i s c.loop-i-test.true c.loop-i.invariant
    (subst (λ x. end_of (part_of x.first x.reader) ≤ c.args.number) c.index-segments-i.is ended)
