use Rattle.std.proofs.Common.{◌≡◌, ◌≤◌, ◌<◌, ◌-◌, map, get_or, sym, ◌∙◌, ap, subst, arith}
use Rattle.std.proofs.lemmas.List.{get_or_default}
use Rattle.segmented_log.specs.Parts.{part_of, tail_end, end_from}
use Rattle.segmented_log.specs.Log.{Gives}
use Rattle.segmented_log.proofs.SyncLemmas.{tail_is_there}
use Rattle.segmented_log.proofs.ReadLemmas.{slot_after, slot_sealed, slot_read}
use Rattle.segmented_log.proofs.reading.get_record.Goals as goal

pub returns-then-number-bounds-2-clause-found : goal.returns-then-number-bounds-2-clause-found
returns-then-number-bounds-2-clause-found g c = λ honest are.
    let bounds = c.args.bounds in
    let number = c.args.number in
    let segments = map (λ x. part_of x.first x.reader) c.args.segments.now.items in
    let le : bounds.first ≤ number = omega arith in
    let below : number < end_from bounds.first segments = omega (arith, are.sealed_is) in
    subst (λ o. Gives o c.get_from.result) (sym (slot_sealed bounds.first segments c.args.tail.now are.parts number le below))
    (c.get_from.ensures.found bounds.first honest are.parts.in_line are.next le below)

pub returns-then-number-bounds-2-clause-failed : goal.returns-then-number-bounds-2-clause-failed
returns-then-number-bounds-2-clause-failed g c = λ honest are refused.
    let bounds = c.args.bounds in
    let le : bounds.first ≤ c.args.number = omega arith in
    let below : c.args.number < end_from bounds.first (map (λ x. part_of x.first x.reader) c.args.segments.now.items) = omega (arith, are.sealed_is) in
    c.get_from.ensures.failed bounds.first honest are.parts.in_line are.next le below refused

pub returns-then-index-places-clause-found : goal.returns-then-index-places-clause-found
returns-then-index-places-clause-found g c = λ honest are.
    let s = c.requires.2 in
    let there = tail_is_there _ _ _ _ _ _ s in
    let past : tail_end c.args.tail.now ≤ c.args.number = omega (arith, there, s.low) in
    slot_after c.args.bounds.first (map (λ x. part_of x.first x.reader) c.args.segments.now.items) c.args.tail.now are.parts c.args.number past

pub copy_record-requires-clause-order : goal.copy_record-requires-clause-order
copy_record-requires-clause-order g c = (c.requires.2.within (c.args.number - c.args.bounds.tail_first) (record { start = 0; end = 0 }) c.if-index-places.false).0

pub copy_record-requires-clause-within : goal.copy_record-requires-clause-within
copy_record-requires-clause-within g c = (c.requires.2.within (c.args.number - c.args.bounds.tail_first) (record { start = 0; end = 0 }) c.if-index-places.false).1

pub returns-clause-found : goal.returns-clause-found
returns-clause-found g c = λ honest are.
    let s = c.requires.2 in
    let bounds = c.args.bounds in
    let number = c.args.number in
    let places = c.args.places.now in
    let place = get_or places (number - bounds.tail_first) (record { start = 0; end = 0 }) in
    let is : place ≡ get_or places (number - bounds.tail_first) place = get_or_default places (number - bounds.tail_first) (record { start = 0; end = 0 }) place c.if-index-places.false in
    slot_read bounds.first (map (λ x. part_of x.first x.reader) c.args.segments.now.items) c.args.tail.now are.parts places place c.in_ok-copy_record.field-0.items number s.records
    (omega (arith, are.sealed_is, c.if-number-bounds-2.false)) (omega (arith, s.first_is, c.if-index-places.false)) (is ∙ ap (λ n. get_or places (number - n) place) s.first_is)
    c.in_ok-copy_record.ensures
