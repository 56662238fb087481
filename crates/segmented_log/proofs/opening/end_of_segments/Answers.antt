use Rattle.std.proofs.Common.{◌≡◌, inl, inr, ◌+◌, ◌<◌, ◌≤◌, ◌^◌, max, map, take, [], ◌∷◌, ◌++◌, length, refl, sym, ◌∙◌, ap, arith}
use Rattle.std.proofs.lemmas.List.{map_more}
use Rattle.segmented_log.specs.Parts.{part_of}
use Rattle.segmented_log.proofs.ScanLemmas.{scanned_none, scanned_more, split_at, goes_on, ends_within, if_none}
use Rattle.segmented_log.proofs.opening.end_of_segments.Goals.{then-segment-end-via-then-segment-end, then-segment-end-via-else-segment-end+then-segment-least}
use Rattle.segmented_log.proofs.opening.end_of_segments.Goals.{then-segment-end-via-else-segment-end+else-segment-least+then-count-eq0}
use Rattle.segmented_log.proofs.opening.end_of_segments.Goals as goal

pub loop-segment-init : goal.loop-segment-init
loop-segment-init g c = record { scanned = scanned_none c.args.first; fits = omega (arith, c.ranges.first.fits) }

pub loop-segment-preserved : goal.loop-segment-preserved
loop-segment-preserved g c =
    let i = c.loop-segment.segment-index in
    let segments = c.args.segments.now in
    let x = c.segment-item.result in
    let p = part_of x.first x.reader in
    let more_is : map (λ s. part_of s.first s.reader) (take (i + 1) segments) ≡ map (λ s. part_of s.first s.reader) (take i segments) ++ p ∷ [] =
    map_more (λ s. part_of s.first s.reader) segments i x c.loop-segment-test.true
    ∙ ap (λ y. map (λ s. part_of s.first s.reader) (take i segments) ++ part_of y.first y.reader ∷ []) (sym c.segment-item.is) in
    let size : c.from-count.result ≡ length p.slots = c.from-count.ensures ∙ c.num_docs.ensures.slots in
    let some : 0 < length p.slots = omega (arith, size, c.if-count-eq0.false) in
    let sum : c.in_ok-checked_add.field-0 ≡ x.first + length p.slots = omega (arith, size, c.in_ok-checked_add.ensures) in
    record {
      scanned = scanned_more c.args.first c.loop-segment.end c.loop-segment.least (map (λ s. part_of s.first s.reader) (take i segments)) _ p c.max-end.result (x.first + 1) more_is
          c.loop-segment.invariant.scanned (omega (arith, c.if-segment-end.false)) (omega (arith, c.if-segment-least.false)) some (c.max-end.ensures ∙ ap (λ n. max c.loop-segment.end n) sum) refl;
      fits = omega (arith, c.max-end.ensures, c.in_ok-checked_add.ensures, c.loop-segment.invariant.fits);
    }

pub returns-then-segment-end-clause-none : goal.returns-then-segment-end-clause-none
returns-then-segment-end-clause-none g c = λ line up fits.
    let x = c.segment-item.result in
    let p = part_of x.first x.reader in
    let size : c.from-count.result ≡ length p.slots = c.from-count.ensures ∙ c.num_docs.ensures.slots in
    let split = split_at (λ s. part_of s.first s.reader) c.args.segments.now c.loop-segment.segment-index x c.loop-segment-test.true c.segment-item.is in
    goes_on c.args.first c.loop-segment.end c.loop-segment.least _ _ p split.0 c.loop-segment.invariant.scanned split.1 line up
    (elim c.then-segment-end.branch [
      | then-segment-end-via-then-segment-end w ↦ inl (omega (arith, w.if-segment-end.true))
      | then-segment-end-via-else-segment-end+then-segment-least w ↦ inr (inl (omega (arith, w.if-segment-least.true)))
      | then-segment-end-via-else-segment-end+else-segment-least+then-count-eq0 w ↦ inr (inr (omega (arith, size, w.if-count-eq0.true)))
    ])

pub returns-in_err-checked_add-clause-none : goal.returns-in_err-checked_add-clause-none
returns-in_err-checked_add-clause-none g c =
    let x = c.segment-item.result in
    let p = part_of x.first x.reader in
    let size : c.from-count.result ≡ length p.slots = c.from-count.ensures ∙ c.num_docs.ensures.slots in
    let past : 2 ^ 64 ≤ x.first + length p.slots = omega (arith, size, c.in_err-checked_add.ensures) in
    let split = split_at (λ s. part_of s.first s.reader) c.args.segments.now c.loop-segment.segment-index x c.loop-segment-test.true c.segment-item.is in
    if_none c.from_residual.result (λ line up fits. ends_within c.args.first (2 ^ 64) _ _ p split.0 split.1 fits past)
