use Rattle.std.proofs.Common.{◌≡◌, ◌+◌, ◌-◌, ◌<◌, ◌≤◌, ◌^◌, length, map, take, drop, suc, refl, sym, ◌∙◌, ap, subst, arith}
use Rattle.std.proofs.lemmas.List.{take_rest, length-map, length-append}
use Rattle.std.proofs.lemmas.List.Sums.{sum_by-cons}
use Rattle.segmented_log.specs.Parts.{Sealed, part_of, sealed_of}
use Rattle.segmented_log.specs.Compacting.{slots_in, bytes_in, CoversNext}
use Rattle.segmented_log.proofs.RunOfParts.{view_parts, run_moved}
use Rattle.segmented_log.proofs.StepLemmas.{run_at, taken_at, covers_at, apart_more, all_apart}
use Rattle.segmented_log.proofs.compacting.find_step.Goals as goal

pub returns-then-covers_next-clause-some : goal.returns-then-covers_next-clause-some
returns-then-covers_next-clause-some g c =
    let i = c.loop-first.first in
    let segments = c.args.segments.now in
    let x = c.index-segments-first.result in
    let next : i + 1 ≡ suc i = omega arith in
    let rest = take_rest segments (i + 1) ∙ ap (λ n. drop n segments) next in
    let same = view_parts (λ s. sealed_of s.first s.reader) (λ s. part_of s.first s.reader) (λ s. refl) segments in
    record {
      joins = λ some. absurd (omega (arith, some));
      covers = λ none. subst (λ l. CoversNext l i) (sym same)
          (covers_at (λ s. part_of s.first s.reader) segments (take (length segments - (i + 1)) (drop (i + 1) segments)) i x c.loop-first-test.true c.index-segments-first.is rest
          (c.covers_next.ensures.yes c.if-covers_next.true));
    }

pub returns-then-count-gt0-clause-some : goal.returns-then-count-gt0-clause-some
returns-then-count-gt0-clause-some g c =
    let i = c.loop-first.first in
    let segments = c.args.segments.now in
    let others = take (length segments - (i + 1)) (drop (i + 1) segments) in
    let x = c.index-segments-first.result in
    let next : i + 1 ≡ suc i = omega arith in
    let rest = take_rest segments (i + 1) ∙ ap (λ n. drop n segments) next in
    let same = view_parts (λ s. sealed_of s.first s.reader) (λ s. part_of s.first s.reader) (λ s. refl) segments in
    let counted = c.count_next-count.ensures in
    let count = c.count_next-count.result in
    let run = map (λ s. sealed_of s.first s.reader) (take count others) in
    let parts = map (λ s. part_of s.first s.reader) (take count others) in
    let p = part_of x.first x.reader in
    let sealed_run = taken_at (λ s. sealed_of s.first s.reader) segments others i count x c.loop-first-test.true c.index-segments-first.is rest in
    let part_run = taken_at (λ s. part_of s.first s.reader) segments others i count x c.loop-first-test.true c.index-segments-first.is rest in
    record {
      joins = λ some. record {
        run = run_moved _ _ i count (sym same)
            (run_at (λ s. part_of s.first s.reader) segments others i count x c.loop-first-test.true c.index-segments-first.is rest counted.within counted.next);
        some = some;
        few = counted.many;
        small = omega (arith, counted.small some, ap bytes_in sealed_run, sum_by-cons (λ (s : Sealed). s.bytes) (sealed_of x.first x.reader) run);
        numbered = subst (λ l. length (slots_in (take (count + 1) (drop i l))) < 2 ^ 32) (sym same)
            (omega (arith, counted.few some, ap (λ l. length (slots_in l)) part_run, length-append p.slots (slots_in parts)));
      };
      covers = λ none. absurd (omega (arith, none, c.if-count-gt0.true));
    }

pub loop-first-preserved : goal.loop-first-preserved
loop-first-preserved g c =
    let i = c.loop-first.first in
    let segments = c.args.segments.now in
    let x = c.index-segments-first.result in
    let next : i + 1 ≡ suc i = omega arith in
    let rest = take_rest segments (i + 1) ∙ ap (λ n. drop n segments) next in
    let none : c.count_next-count.result ≡ 0 = omega (arith, c.if-count-gt0.false) in
    λ first. apart_more (λ s. part_of s.first s.reader) (λ s. sealed_of s.first s.reader) (λ s. refl) c.args.size segments
    (take (length segments - (i + 1)) (drop (i + 1) segments)) i x c.loop-first-test.true c.index-segments-first.is rest
    (c.covers_next.ensures.no c.if-covers_next.false) (c.count_next-count.ensures.none none) (c.loop-first.invariant first)

pub returns-clause-none : goal.returns-clause-none
returns-clause-none g c =
    let segments = c.args.segments.now in
    let at_end : length (map (λ s. sealed_of s.first s.reader) segments) ≤ c.loop-first.first = omega (arith, length-map segments (λ s. sealed_of s.first s.reader), c.loop-first-test.false) in
    λ first. all_apart c.loop-first.first c.args.size (map (λ s. sealed_of s.first s.reader) segments) at_end (c.loop-first.invariant first)
